-- What a store on a database is seen as.
use Rattle.std.specs.Prelude.{ℕ, Bool, Option, ◌≡◌, IsTrue, refl}
use Rattle.std.specs.Coded.{Coded, code_by, coded×, coded_ℕ, coded_bool, coded_option}
use Rattle.sqlite.specs.Store.{Ghosts}
use Rattle.sqlite.specs.Tree.{Trees}
use Rattle.sqlite.specs.State.{State, HasCleanDisk}
use Rattle.sqlite.specs.Held.{Held, held_code, state}
use Rattle.press_acceptor.specs.StoreMap.{StoreMap}
use Rattle.press_acceptor.specs.Seen.{Seen}
use Rattle.press_starts.specs.declared.mark.Mark.{Mark}
use Rattle.press_store.specs.Stands.{store_in}

-- what the last commit of a connection left
abbrev pub kept_by : State → StoreMap
kept_by s = store_in s.committed.trees

-- the maps that a crash may leave
abbrev pub MayLeave : State → StoreMap → Type 0
MayLeave s store = (db : Trees) × s.may_leave db × (store ≡ store_in db)

pub record Kept (S : Type 0) : Type 0 where
  pub conn : Held S
  -- how many answers of the connection named the disk or a size
  pub faults : ℕ
  -- the tables are those that a store makes, and nothing is beside them
  pub is_ours : Bool
  -- the start that runs, and how many saves it made
  pub mark : Option Mark

abbrev pub mark_code : Coded Mark
mark_code = code_by (ℕ × ℕ) (coded× coded_ℕ coded_ℕ) (λ m. (m.start, m.saves)) (λ p. record { start = p.0; saves = p.1 }) (λ _. refl)

abbrev pub kept_code : {S : Type 0} → Coded S → Coded (Kept S)
kept_code {S} store =
    code_by (Held S × (ℕ × (Bool × Option Mark))) (coded× (held_code store) (coded× coded_ℕ (coded× coded_bool (coded_option mark_code)))) (λ k. (k.conn, (k.faults, (k.is_ours, k.mark))))
    (λ p. record { conn = p.0; faults = p.1.0; is_ours = p.1.1.0; mark = p.1.1.1 }) (λ _. refl)

-- What is seen of it. Any of its calls may have ended by any fault.
abbrev pub seen_of : {S : Type 0} → Ghosts S → Kept S → Seen
seen_of g k = record {
  is_honest = HasCleanDisk (state g k.conn) × IsTrue k.is_ours;
  is_open = (state g k.conn).is_open;
  kept = kept_by (state g k.conn);
  may_leave = MayLeave (state g k.conn);
  faults = k.faults;
  ends = λ _ _. Unit {0};
}
