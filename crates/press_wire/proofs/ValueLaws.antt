-- Values: what is read is spelled so, and what is spelled so is read.
use Rattle.std.proofs.Common.{◌≡◌, ℕ, ◌^◌, ◌<◌, ◌≤◌, Bool, true, false, cond, eqb, ltb, List, [], ◌∷◌, ◌++◌, length, Option, Some, None, option_map, Result, Ok, Err, refl, sym, ap, subst, ◌∙◌, append_assoc, arith}
use Rattle.std.proofs.lemmas.List.{append-nil, nil_from_length}
use Rattle.std.proofs.lemmas.Bool.{eqb-true, ltb-false, le-ltb}
use Rattle.press_text.specs.Names.{IsName}
use Rattle.press_posts.specs.declared.draft.Draft.{Draft}
use Rattle.press_apply.specs.declared.command.Command.{Command}
use Rattle.press_apply.specs.declared.command.Command.TheVariants.{Insert, Update, Trash, Untrash, Delete, SetOption, Activate, Deactivate, Tick, Profile}
use Rattle.press_apply.specs.declared.command.Stamped.{Stamped}
use Rattle.press_apply.specs.declared.value.Value.{Value}
use Rattle.press_apply.specs.declared.value.Value.TheVariants.{Noop, Cmd}
use Rattle.press_wire.specs.declared.fault.WireFault.{WireFault}
use Rattle.press_wire.specs.declared.fault.WireFault.TheVariants.{TooLong, BadKind, Extra}
use Rattle.press_apply.specs.declared.kind.CommandKind.{CommandKind}
use Rattle.press_apply.specs.declared.kind.CommandKind.TheVariants as kind
use Rattle.press_wire.specs.declared.kind.ValueKind.{ValueKind}
use Rattle.press_wire.specs.declared.kind.ValueKind.TheVariants as value
use Rattle.press_wire.specs.Fields.{◌>>=◌, byte_at, checked_at}
use Rattle.std.specs.Prelude.{IfOk}
use Rattle.press_text.specs.Gives.{Gives}
use Rattle.press_wire.specs.Refusals.{Refuses}
use Rattle.press_wire.specs.Measures.{Measures}
use Rattle.press_wire.specs.Held.{IsBytes, IsMoment, IsCommand, IsValue, HasShortTexts, IsShort}
use Rattle.press_apply.specs.Kinds.{command_number, command_kind_of, kind_of_command}
use Rattle.press_wire.specs.Kinds.{value_kind_of}
use Rattle.press_wire.specs.Reading.{or_extra, draft_at, insert_at, update_at, option_at, fields_at, stamped_at, behind_kind, command_at, read_value, read_command}
use Rattle.press_wire.specs.Spelling.{number8, name, text, draft, fields, stamped, spelled_command, longest, is_too_long}
use Rattle.press_wire.proofs.Codec.{Takes, Codec, step, step_again, join, ok_is, checked_codec, or_next, or_none, recast, mapped_codec, paired_codec}
use Rattle.press_wire.proofs.FieldLaws.{one, byte_codec, number8_codec, moment_codec, status_codec, name_codec, FitsText, text_codec}
use Rattle.press_wire.proofs.Lengths.{is_short}

-- ---- drafts

abbrev FitsDraft : Draft → Type 0
FitsDraft d = FitsText d.title × FitsText d.content × IsMoment d.date

draft_takes : (bytes : List ℕ) (v : Draft) (rest : List ℕ) → IsBytes bytes → draft_at bytes ≡ Ok (v, rest) → Takes draft FitsDraft bytes v rest
unfolding draft_at draft
draft_takes bytes v rest fits e =
    let a = step text_codec _ (v, rest) bytes fits e in
    let b = step text_codec _ (v, rest) a.rest a.took.rest_fits a.next in
    let c = step status_codec _ (v, rest) b.rest b.took.rest_fits b.next in
    let d = step moment_codec _ (v, rest) c.rest c.took.rest_fits c.next in
    let made : Draft = record { title = a.value; content = b.value; status = c.value; date = d.value } in
    subst (λ (p : Draft × List ℕ). Takes draft FitsDraft bytes p.0 p.1) (ok_is (made, d.rest) (v, rest) d.next) (record {
      parts = join bytes (text a.value) a.rest (text b.value ++ (_ ∷ number8 d.value)) d.rest a.took.parts (join a.rest (text b.value) b.rest (_ ∷ number8 d.value) d.rest b.took.parts (join b.rest (one _) c.rest (number8 d.value) d.rest c.took.parts d.took.parts));
      rest_fits = d.took.rest_fits;
      fits = (a.took.fits, b.took.fits, d.took.fits);
    })

draft_again : (v : Draft) (rest : List ℕ) → FitsDraft v → draft_at (draft v ++ rest) ≡ Ok (v, rest)
unfolding draft_at draft
draft_again v rest fits =
    let regrouped = append_assoc (text v.title) (text v.content ++ (_ ∷ number8 v.date)) rest ∙ ap (λ (t : List ℕ). text v.title ++ t) (append_assoc (text v.content) (_ ∷ number8 v.date) rest) in
    ap draft_at regrouped
    ∙ step_again text_codec _ v.title _ fits.0
    ∙ step_again text_codec _ v.content _ fits.1
    ∙ step_again status_codec _ v.status _ tt
    ∙ step_again moment_codec _ v.date rest fits.2

draft_codec : Codec draft_at draft FitsDraft
draft_codec = record { takes = draft_takes; again = draft_again }

-- ---- the fields of a kind

abbrev pub FitsCommand : Command → Type 0
FitsCommand (Insert d) = FitsDraft d
FitsCommand (Update id d) = (id < 2 ^ 64) × FitsDraft d
FitsCommand (Trash id) = id < 2 ^ 64
FitsCommand (Untrash id) = id < 2 ^ 64
FitsCommand (Delete id) = id < 2 ^ 64
FitsCommand (SetOption option text) = IsName 32 option × FitsText text
FitsCommand (Activate plugin) = IsName 32 plugin
FitsCommand (Deactivate plugin) = IsName 32 plugin
FitsCommand Tick = Unit {0}
FitsCommand (Profile to) = to < 256

-- a command of this kind
abbrev FitsKind : CommandKind → Command → Type 0
FitsKind k c = FitsCommand c × (kind_of_command c ≡ k)

back_insert : (c : Command) → FitsKind kind.Insert c → (d : Draft) × (c ≡ Insert d) × FitsDraft d
back_insert (Insert d) fits = (d, refl, fits.0)
back_insert other fits = let e = fits.1 in absurd cc

back_update : (c : Command) → FitsKind kind.Update c → (id : ℕ) × (d : Draft) × (c ≡ Update id d) × (id < 2 ^ 64) × FitsDraft d
back_update (Update id d) fits = (id, d, refl, fits.0.0, fits.0.1)
back_update other fits = let e = fits.1 in absurd cc

back_trash : (c : Command) → FitsKind kind.Trash c → (id : ℕ) × (c ≡ Trash id) × (id < 2 ^ 64)
back_trash (Trash id) fits = (id, refl, fits.0)
back_trash other fits = let e = fits.1 in absurd cc

back_untrash : (c : Command) → FitsKind kind.Untrash c → (id : ℕ) × (c ≡ Untrash id) × (id < 2 ^ 64)
back_untrash (Untrash id) fits = (id, refl, fits.0)
back_untrash other fits = let e = fits.1 in absurd cc

back_delete : (c : Command) → FitsKind kind.Delete c → (id : ℕ) × (c ≡ Delete id) × (id < 2 ^ 64)
back_delete (Delete id) fits = (id, refl, fits.0)
back_delete other fits = let e = fits.1 in absurd cc

back_option : (c : Command) → FitsKind kind.SetOption c → (option text : List ℕ) × (c ≡ SetOption option text) × IsName 32 option × FitsText text
back_option (SetOption option text) fits = (option, text, refl, fits.0.0, fits.0.1)
back_option other fits = let e = fits.1 in absurd cc

back_activate : (c : Command) → FitsKind kind.Activate c → (plugin : List ℕ) × (c ≡ Activate plugin) × IsName 32 plugin
back_activate (Activate plugin) fits = (plugin, refl, fits.0)
back_activate other fits = let e = fits.1 in absurd cc

back_deactivate : (c : Command) → FitsKind kind.Deactivate c → (plugin : List ℕ) × (c ≡ Deactivate plugin) × IsName 32 plugin
back_deactivate (Deactivate plugin) fits = (plugin, refl, fits.0)
back_deactivate other fits = let e = fits.1 in absurd cc

tick_is : (c : Command) → FitsKind kind.Tick c → c ≡ Tick
tick_is Tick fits = refl
tick_is other fits = let e = fits.1 in absurd cc

back_profile : (c : Command) → FitsKind kind.Profile c → (to : ℕ) × (c ≡ Profile to) × (to < 256)
back_profile (Profile to) fits = (to, refl, fits.0)
back_profile other fits = let e = fits.1 in absurd cc

no_fields : fields Tick ≡ []
unfolding fields
no_fields = refl

fields_codec : (k : CommandKind) → Codec (fields_at k) fields (FitsKind k)
unfolding fields_at insert_at update_at option_at fields
fields_codec kind.Insert = mapped_codec draft_codec Insert fields (FitsKind kind.Insert) (λ d. refl) (λ d fits. (fits, refl)) back_insert
fields_codec kind.Update = paired_codec number8_codec draft_codec Update fields (FitsKind kind.Update) (λ id d. refl) (λ id d small fits. ((small, fits), refl)) back_update
fields_codec kind.Trash = mapped_codec number8_codec Trash fields (FitsKind kind.Trash) (λ id. refl) (λ id fits. (fits, refl)) back_trash
fields_codec kind.Untrash = mapped_codec number8_codec Untrash fields (FitsKind kind.Untrash) (λ id. refl) (λ id fits. (fits, refl)) back_untrash
fields_codec kind.Delete = mapped_codec number8_codec Delete fields (FitsKind kind.Delete) (λ id. refl) (λ id fits. (fits, refl)) back_delete
fields_codec kind.SetOption = paired_codec name_codec text_codec SetOption fields (FitsKind kind.SetOption) (λ option text. refl) (λ option text named fits. ((named, fits), refl)) back_option
fields_codec kind.Activate = mapped_codec name_codec Activate fields (FitsKind kind.Activate) (λ plugin. refl) (λ plugin fits. (fits, refl)) back_activate
fields_codec kind.Deactivate = mapped_codec name_codec Deactivate fields (FitsKind kind.Deactivate) (λ plugin. refl) (λ plugin fits. (fits, refl)) back_deactivate
fields_codec kind.Tick = record {
  takes = λ bytes v rest fits e.
      subst (λ (p : Command × List ℕ). Takes fields (FitsKind kind.Tick) bytes p.0 p.1) (ok_is (Tick, bytes) (v, rest) e) (record { parts = ap (λ (t : List ℕ). t ++ bytes) (sym no_fields); rest_fits = fits; fits = (tt, refl) });
  again = λ v rest fits. rw (tick_is v fits) refl;
}
fields_codec kind.Profile = mapped_codec byte_codec Profile fields (FitsKind kind.Profile) (λ to. refl) (λ to fits. (fits, refl)) back_profile

-- ---- stamped commands

abbrev FitsStamped : CommandKind → Stamped → Type 0
FitsStamped k s = IsName 32 s.token.editor × (s.token.seq < 2 ^ 64) × IsMoment s.at × FitsKind k s.command

stamped_takes : (k : CommandKind) (bytes : List ℕ) (v : Stamped) (rest : List ℕ) → IsBytes bytes → stamped_at k bytes ≡ Ok (v, rest) → Takes stamped (FitsStamped k) bytes v rest
unfolding stamped_at stamped
stamped_takes k bytes v rest fits e =
    let a = step name_codec _ (v, rest) bytes fits e in
    let b = step number8_codec _ (v, rest) a.rest a.took.rest_fits a.next in
    let c = step moment_codec _ (v, rest) b.rest b.took.rest_fits b.next in
    let d = step (fields_codec k) _ (v, rest) c.rest c.took.rest_fits c.next in
    let made : Stamped = record { token = record { editor = a.value; seq = b.value }; at = c.value; command = d.value } in
    subst (λ (p : Stamped × List ℕ). Takes stamped (FitsStamped k) bytes p.0 p.1) (ok_is (made, d.rest) (v, rest) d.next) (record {
      parts = join bytes (name a.value) a.rest (number8 b.value ++ (number8 c.value ++ fields d.value)) d.rest a.took.parts
          (join a.rest (number8 b.value) b.rest (number8 c.value ++ fields d.value) d.rest b.took.parts (join b.rest (number8 c.value) c.rest (fields d.value) d.rest c.took.parts d.took.parts));
      rest_fits = d.took.rest_fits;
      fits = (a.took.fits, b.took.fits, c.took.fits, d.took.fits);
    })

stamped_again : (k : CommandKind) (s : Stamped) (rest : List ℕ) → FitsStamped k s → stamped_at k (stamped s ++ rest) ≡ Ok (s, rest)
unfolding stamped_at stamped
stamped_again k s rest fits =
    let regrouped = append_assoc (name s.token.editor) (number8 s.token.seq ++ (number8 s.at ++ fields s.command)) rest
    ∙ ap (λ (t : List ℕ). name s.token.editor ++ t) (append_assoc (number8 s.token.seq) (number8 s.at ++ fields s.command) rest ∙ ap (λ (t : List ℕ). number8 s.token.seq ++ t) (append_assoc (number8 s.at) (fields s.command) rest)) in
    ap (stamped_at k) regrouped
    ∙ step_again name_codec _ s.token.editor _ fits.0
    ∙ step_again number8_codec _ s.token.seq _ fits.1
    ∙ step_again moment_codec _ s.at _ fits.2
    ∙ step_again (fields_codec k) _ s.command rest fits.3

stamped_codec : (k : CommandKind) → Codec (stamped_at k) stamped (FitsStamped k)
stamped_codec k = record { takes = stamped_takes k; again = stamped_again k }

-- ---- values behind their kinds

abbrev value_number : ValueKind → ℕ
value_number value.Noop = 0
value_number (value.Cmd k) = command_number k

abbrev kind_of_value : Value → ValueKind
kind_of_value (Noop at) = value.Noop
kind_of_value (Cmd s) = value.Cmd (kind_of_command s.command)

command_named : (n : ℕ) (k : CommandKind) → command_kind_of n ≡ Some k → n ≡ command_number k
command_named n k =
    or_next command_number n 1 kind.Insert k _ refl (or_next command_number n 2 kind.Update k _ refl (or_next command_number n 3 kind.Trash k _ refl
    (or_next command_number n 4 kind.Untrash k _ refl (or_next command_number n 5 kind.Delete k _ refl (or_next command_number n 6 kind.SetOption k _ refl
    (or_next command_number n 7 kind.Activate k _ refl (or_next command_number n 8 kind.Deactivate k _ refl (or_next command_number n 9 kind.Tick k _ refl
    (or_next command_number n 10 kind.Profile k _ refl (or_none command_number n k))))))))))

of_command : (n : ℕ) (o : Option CommandKind) (v : ValueKind) → ((k : CommandKind) → o ≡ Some k → n ≡ command_number k) → option_map value.Cmd o ≡ Some v → n ≡ value_number v
of_command n None v h e = absurd cc
of_command n (Some k) v h e = let v-is : value.Cmd k ≡ v = cc in h k refl ∙ ap value_number v-is

value_named : (n : ℕ) (v : ValueKind) → value_kind_of n ≡ Some v → n ≡ value_number v
value_named n v = or_next value_number n 0 value.Noop v _ refl (of_command n (command_kind_of n) v (command_named n))

value_known : (v : ValueKind) → (value_number v < 256) × (value_kind_of (value_number v) ≡ Some v)
value_known value.Noop = (omega arith, refl)
value_known (value.Cmd kind.Insert) = (omega arith, refl)
value_known (value.Cmd kind.Update) = (omega arith, refl)
value_known (value.Cmd kind.Trash) = (omega arith, refl)
value_known (value.Cmd kind.Untrash) = (omega arith, refl)
value_known (value.Cmd kind.Delete) = (omega arith, refl)
value_known (value.Cmd kind.SetOption) = (omega arith, refl)
value_known (value.Cmd kind.Activate) = (omega arith, refl)
value_known (value.Cmd kind.Deactivate) = (omega arith, refl)
value_known (value.Cmd kind.Tick) = (omega arith, refl)
value_known (value.Cmd kind.Profile) = (omega arith, refl)

value_kind_codec : Codec (checked_at BadKind value_kind_of byte_at) (λ k. one (value_number k)) (λ k. Unit {0})
value_kind_codec = recast (checked_codec byte_codec BadKind value_kind_of value_number value_named) (checked_at BadKind value_kind_of byte_at) (λ k. one (value_number k)) (λ k. Unit {0})
    (λ bytes. refl) (λ k. refl) (λ k fits. tt) (λ k fits. value_known k)

abbrev behind : Value → List ℕ
behind (Noop at) = number8 at
behind (Cmd s) = stamped s

abbrev pub FitsValue : Value → Type 0
FitsValue (Noop at) = IsMoment at
FitsValue (Cmd s) = IsName 32 s.token.editor × (s.token.seq < 2 ^ 64) × IsMoment s.at × FitsCommand s.command

abbrev FitsValueKind : ValueKind → Value → Type 0
FitsValueKind k v = FitsValue v × (kind_of_value v ≡ k)

back_noop : (v : Value) → FitsValueKind value.Noop v → (at : ℕ) × (v ≡ Noop at) × IsMoment at
back_noop (Noop at) fits = (at, refl, fits.0)
back_noop (Cmd s) fits = let e = fits.1 in absurd cc

cmd_is : (k l : CommandKind) → value.Cmd k ≡ value.Cmd l → k ≡ l
cmd_is k l e = cc

back_cmd : (k : CommandKind) (v : Value) → FitsValueKind (value.Cmd k) v → (s : Stamped) × (v ≡ Cmd s) × FitsStamped k s
back_cmd k (Noop at) fits = let e = fits.1 in absurd cc
back_cmd k (Cmd s) fits = (s, refl, (fits.0.0, fits.0.1, fits.0.2, (fits.0.3, cmd_is (kind_of_command s.command) k fits.1)))

behind_codec : (k : ValueKind) → Codec (behind_kind k) behind (FitsValueKind k)
unfolding behind_kind
behind_codec value.Noop = mapped_codec moment_codec Noop behind (FitsValueKind value.Noop) (λ at. refl) (λ at fits. (fits, refl)) back_noop
behind_codec (value.Cmd k) = mapped_codec (stamped_codec k) Cmd behind (FitsValueKind (value.Cmd k)) (λ s. refl) (λ s fits. ((fits.0, fits.1, fits.2, fits.3.0), ap value.Cmd fits.3.1)) (back_cmd k)

spelled_is : (v : Value) → spelled_command v ≡ one (value_number (kind_of_value v)) ++ behind v
unfolding spelled_command
spelled_is (Noop at) = refl
spelled_is (Cmd s) = refl

command_takes : (bytes : List ℕ) (v : Value) (rest : List ℕ) → IsBytes bytes → command_at bytes ≡ Ok (v, rest) → Takes spelled_command FitsValue bytes v rest
unfolding command_at
command_takes bytes v rest fits e =
    let k = step value_kind_codec _ (v, rest) bytes fits e in
    let b = (behind_codec k.value).takes k.rest v rest k.took.rest_fits k.next in
    record {
      parts = k.took.parts ∙ ap (λ (t : List ℕ). one (value_number k.value) ++ t) b.parts ∙ ap (λ (l : ValueKind). one (value_number l) ++ (behind v ++ rest)) (sym b.fits.1) ∙ ap (λ (t : List ℕ). t ++ rest) (sym (spelled_is v));
      rest_fits = b.rest_fits;
      fits = b.fits.0;
    }

command_again : (v : Value) (rest : List ℕ) → FitsValue v → command_at (spelled_command v ++ rest) ≡ Ok (v, rest)
unfolding command_at
command_again v rest fits =
    ap (λ (t : List ℕ). command_at (t ++ rest)) (spelled_is v) ∙ step_again value_kind_codec _ (kind_of_value v) (behind v ++ rest) tt ∙ (behind_codec (kind_of_value v)).again v rest (fits, refl)

command_codec : Codec command_at spelled_command FitsValue
command_codec = record { takes = command_takes; again = command_again }

-- ---- all of the bytes

pub ended_ok : {A : Type 0} (x : A × List ℕ) (b : Bool) (y : A) → cond b (Ok x.0) (Err Extra) ≡ Ok y → (b ≡ true) × (x.0 ≡ y)
ended_ok x true y e = (refl, cc)
ended_ok x false y e = absurd cc

pub whole_takes : (bytes : List ℕ) (v : Value) → IsBytes bytes → read_value bytes ≡ Ok v → FitsValue v × (bytes ≡ spelled_command v)
unfolding read_value
whole_takes bytes v fits e =
    let s = step command_codec or_extra v bytes fits e in
    let g = ended_ok (s.value, s.rest) (eqb (length s.rest) 0) v s.next in
    let nothing : s.rest ≡ [] = nil_from_length s.rest (eqb-true _ _ g.0) in
    subst (λ (x : Value). FitsValue x × (bytes ≡ spelled_command x)) g.1 (s.took.fits, s.took.parts ∙ ap (λ (t : List ℕ). spelled_command s.value ++ t) nothing ∙ append-nil (spelled_command s.value))

pub whole_again : (v : Value) → FitsValue v → read_value (spelled_command v) ≡ Ok v
unfolding read_value
whole_again v fits = ap (λ (t : List ℕ). command_at t >>= or_extra) (sym (append-nil (spelled_command v))) ∙ step_again command_codec or_extra v [] fits

guard : {A : Type 0} (b : Bool) (r : Result A WireFault) (y : A) → cond b (Err TooLong) r ≡ Ok y → r ≡ Ok y
guard true r y e = absurd cc
guard false r y e = e

-- ---- what the types hold

is_command : (c : Command) → FitsCommand c → IsCommand c
is_command (Insert d) fits = (fits.0.1, fits.1.1, fits.2)
is_command (Update id d) fits = (fits.0, (fits.1.0.1, fits.1.1.1, fits.1.2))
is_command (Trash id) fits = fits
is_command (Untrash id) fits = fits
is_command (Delete id) fits = fits
is_command (SetOption option text) fits = (fits.0, fits.1.1)
is_command (Activate plugin) fits = fits
is_command (Deactivate plugin) fits = fits
is_command Tick fits = tt
is_command (Profile to) fits = fits

pub is_value : (v : Value) → FitsValue v → IsValue v
is_value (Noop at) fits = fits
is_value (Cmd s) fits = (fits.0, fits.1, fits.2, is_command s.command fits.3)

within : (n : ℕ) → n ≤ longest → n ≤ 65536
within n short = omega arith

command_fits : (c : Command) → IsCommand c → HasShortTexts c → FitsCommand c
command_fits (Insert d) is short = ((within _ short.0, is.0), (within _ short.1, is.1), is.2)
command_fits (Update id d) is short = (is.0, ((within _ short.0, is.1.0), (within _ short.1, is.1.1), is.1.2))
command_fits (Trash id) is short = is
command_fits (Untrash id) is short = is
command_fits (Delete id) is short = is
command_fits (SetOption option text) is short = (is.0, (within _ short, is.1))
command_fits (Activate plugin) is short = is
command_fits (Deactivate plugin) is short = is
command_fits Tick is short = tt
command_fits (Profile to) is short = is

value_fits : (v : Value) → IsValue v → IsShort v → FitsValue v
value_fits (Noop at) is short = is
value_fits (Cmd s) is short = (is.0, is.1, is.2, command_fits s.command is.3 short)

pub fits_value : (v : Value) → IsValue v → is_too_long v ≡ false → FitsValue v
fits_value v is short = value_fits v is (is_short v (ltb-false longest (length (spelled_command v)) short))

-- ---- the laws

pub reads_back : (v : Value) → IsValue v → is_too_long v ≡ false → read_command (spelled_command v) ≡ Ok v
unfolding read_command
reads_back v is short = rw short (whole_again v (fits_value v is short))

pub is_read : (bytes : List ℕ) (v : Value) → IsBytes bytes → read_command bytes ≡ Ok v → IsValue v × (bytes ≡ spelled_command v)
unfolding read_command
is_read bytes v fits e =
    let w = whole_takes bytes v fits (guard (ltb longest (length bytes)) (read_value bytes) v e) in
    (is_value v w.0, w.1)

-- what an encoder wrote
pub reads_written : (v : Value) (bytes : List ℕ) (len : ℕ) → IsValue v → Measures (Some len) (length (spelled_command v)) → bytes ≡ spelled_command v → read_command bytes ≡ Ok v
reads_written v bytes len is measured same =
    let within : length (spelled_command v) ≤ longest = omega arith in
    ap read_command same ∙ reads_back v is (le-ltb _ _ within)

pub is_given : (bytes : List ℕ) (r : Result Value WireFault) → IsBytes bytes → Gives Refuses Ok r (read_command bytes) → IfOk r (λ v. bytes ≡ spelled_command v)
is_given bytes (Ok v) fits given = (is_read bytes v fits given).1
is_given bytes (Err fault) fits given = tt
