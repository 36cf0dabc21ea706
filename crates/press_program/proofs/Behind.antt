-- What several files come to, one read behind the other.
use Rattle.std.proofs.Common.{◌≡◌, ◌==◌, refl, sym, ap, ap₂, ◌∙◌, ℕ, ◌+◌, ◌-◌, ◌<◌, arith, false, List, [], ◌∷◌, ◌++◌, length, length-append, append-nil, append_assoc, inl, inr}
use Rattle.std.proofs.Math.ListN.{replicate}
use Rattle.std.proofs.lemmas.List.{length-replicate}
use Rattle.std.specs.Prelude.{Option, Some, None, Result, Ok, Err}
use Rattle.press_apply.specs.declared.command.Stamped.{Stamped}
use Rattle.press_callbacks.specs.Kits.{KitView}
use Rattle.press_kit.specs.SiteFile.{site_in}
use Rattle.press_kit.specs.declared.place.Place.{Place}
use Rattle.press_page.specs.declared.reply.Target.{Target}
use Rattle.press_world.specs.ReadingFiles.{ReadsAs, Refuses}
use Rattle.press_world.specs.declared.replay_fault.ReplayFault.{ReplayFault}
use Rattle.press_world.specs.declared.replay_fault.ReplayFault.TheVariants.{NoMemory, ReadFault, WriteFault, BadSchedule}
use Rattle.press_program.specs.Endings.{joined_sites, page_ending, sites_in, EndsBehind, IsOutside, ReadsBehind, ReadsNamed}
use Rattle.press_program.specs.Words.{of_file, of_files, page_job}
use Rattle.press_program.specs.declared.ending.Ending.{Ending}
use Rattle.press_program.specs.declared.ending.Ending.TheVariants.{Fault}
use Rattle.press_program.specs.declared.task.Task.TheVariants.{Page}

-- ---- what is asked

pub job_alone : (file : List ℕ) (names : List (List ℕ)) (target : Target) → names ≡ [] → of_file (file, Page target) ≡ page_job file names target
job_alone file names target none = ap (λ ns. page_job file ns target) (sym none)

pub job_behind : (file : List ℕ) (names : List (List ℕ)) (target : Target) → (length names == 0) ≡ false
    → of_files (record { first = file; further = names; target = target }) ≡ page_job file names target
job_behind file [] target some = cc
job_behind file (name ∷ names) target some = refl

-- ---- commands of files, one behind the other

joined_front : (more : Result (List Stamped) Place) → more ≡ joined_sites (Ok []) more
joined_front (Ok more) = refl
joined_front (Err place) = refl

joined_twice : (a b c : Result (List Stamped) Place) → joined_sites (joined_sites a b) c ≡ joined_sites a (joined_sites b c)
joined_twice (Err place) b c = refl
joined_twice (Ok xs) (Err place) c = refl
joined_twice (Ok xs) (Ok ys) (Err place) = refl
joined_twice (Ok xs) (Ok ys) (Ok zs) = ap (λ cs. Ok cs) (append_assoc xs ys zs)

sites_append : (files more : List (List ℕ)) → sites_in (files ++ more) ≡ joined_sites (sites_in files) (sites_in more)
unfolding sites_in
sites_append [] more = joined_front (sites_in more)
sites_append (bytes ∷ files) more = ap (joined_sites (site_in bytes)) (sites_append files more) ∙ sym (joined_twice (site_in bytes) (sites_in files) (sites_in more))

one_site : (bytes : List ℕ) (commands : List Stamped) → site_in bytes ≡ Ok commands → sites_in (bytes ∷ []) ≡ Ok commands
unfolding sites_in
one_site bytes commands is = ap (λ found. joined_sites found (Ok [])) is ∙ ap (λ cs. Ok cs) (append-nil commands)

bad_front : (bytes : List ℕ) (files : List (List ℕ)) (place : Place) → site_in bytes ≡ Err place → sites_in (bytes ∷ files) ≡ Err place
unfolding sites_in
bad_front bytes files place bad = ap (λ found. joined_sites found (sites_in files)) bad

bad_behind : (bytes : List ℕ) (files : List (List ℕ)) (commands : List Stamped) (place : Place) → site_in bytes ≡ Ok commands → sites_in files ≡ Err place
    → sites_in (bytes ∷ files) ≡ Err place
unfolding sites_in
bad_behind bytes files commands place is bad = ap₂ joined_sites is bad

both_sites : (bytes : List ℕ) (files : List (List ℕ)) (commands more : List Stamped) → site_in bytes ≡ Ok commands → sites_in files ≡ Ok more
    → sites_in (bytes ∷ files) ≡ Ok (commands ++ more)
unfolding sites_in
both_sites bytes files commands more is are = ap₂ joined_sites is are

-- a fault of one reading is that of another, where what is bad for the one is so for the other
carried : (fault : ReplayFault) (found found' : Result (List Stamped) Place) → ((place : Place) → found ≡ Err place → found' ≡ Err place) → Refuses fault found → Refuses fault found'
carried NoMemory found found' step is = tt
carried ReadFault found found' step is = tt
carried BadSchedule found found' step is = (is.0, step is.0 is.1)
carried WriteFault found found' step is = absurd is

-- so many files, with nothing in them
blanks : (count : ℕ) → (files : List (List ℕ)) × (length files ≡ count)
blanks count =
    let none : List ℕ = [] in
    (replicate count none, length-replicate count none)

-- ---- readings

pub unopened : (fault : ReplayFault) → IsOutside (Fault fault) → ReadsAs site_in None (Err fault)
unfolding ReadsAs
unopened NoMemory is = ([], tt, tt)
unopened ReadFault is = ([], tt, tt)
unopened WriteFault is = absurd is
unopened BadSchedule is = absurd is

-- what a reader tells is some bytes
pub untold : (remaining : Option (List ℕ)) (result : Result (List Stamped) ReplayFault) → ReadsAs site_in remaining result → ReadsAs site_in None result
unfolding ReadsAs
untold remaining result reads = (reads.0, tt, reads.2)

-- the commands of so many files
abbrev pub AreRead : ℕ → List Stamped → Type 0
AreRead count commands = (files : List (List ℕ)) × (length files ≡ count) × (sites_in files ≡ Ok commands)

pub none_read : AreRead 0 []
unfolding sites_in
none_read = ([], refl, refl)

pub one_more : (count : ℕ) (commands more new : List Stamped) → AreRead count commands → ReadsAs site_in None (Ok more) → new ≡ commands ++ more → AreRead (count + 1) new
unfolding ReadsAs
one_more count commands more new read reads is =
    let long : length (read.0 ++ reads.0 ∷ []) ≡ count + 1 = omega (arith, length-append read.0 (reads.0 ∷ []), read.1) in
    (read.0 ++ reads.0 ∷ [], long, sites_append read.0 (reads.0 ∷ []) ∙ (ap₂ joined_sites read.2 (one_site reads.0 more reads.2) ∙ ap (λ cs. Ok cs) (sym is)))

pub all_read : (count total : ℕ) (commands : List Stamped) → count ≡ total → AreRead count commands → ReadsNamed total (Ok commands)
unfolding ReadsNamed
all_read count total commands same read = (read.0, read.1 ∙ same, read.2)

pub one_stops : (count total : ℕ) (commands : List Stamped) (fault : ReplayFault) → count < total → AreRead count commands → ReadsAs site_in None (Err fault) → ReadsNamed total (Err fault)
unfolding ReadsAs ReadsNamed
one_stops count total commands fault less read reads =
    let rest = blanks (total - (count + 1)) in
    let stops : (place : Place) → site_in reads.0 ≡ Err place → sites_in (read.0 ++ reads.0 ∷ rest.0) ≡ Err place =
    λ place bad. sites_append read.0 (reads.0 ∷ rest.0) ∙ ap₂ joined_sites read.2 (bad_front reads.0 rest.0 place bad) in
    let long : length (read.0 ++ reads.0 ∷ rest.0) ≡ total = omega (arith, length-append read.0 (reads.0 ∷ rest.0), read.1, rest.1, less) in
    (read.0 ++ reads.0 ∷ rest.0, long, carried fault (site_in reads.0) (sites_in (read.0 ++ reads.0 ∷ rest.0)) stops reads.2)

pub named_without_memory : (total : ℕ) → ReadsNamed total (Err NoMemory)
unfolding ReadsNamed
named_without_memory total = let files = blanks total in (files.0, files.1, tt)

module _ (remaining : Option (List ℕ)) (count : ℕ) where
  pub both_read : (commands more new : List Stamped) → ReadsAs site_in remaining (Ok commands) → ReadsNamed count (Ok more) → new ≡ commands ++ more → ReadsBehind remaining count (Ok new)
  unfolding ReadsAs ReadsNamed ReadsBehind
  both_read commands more new front named is =
      (front.0, front.1, named.0, named.1, both_sites front.0 named.0 commands more front.2 named.2 ∙ ap (λ cs. Ok cs) (sym is))

  pub front_stops : (fault : ReplayFault) → ReadsAs site_in remaining (Err fault) → ReadsBehind remaining count (Err fault)
  unfolding ReadsAs ReadsBehind
  front_stops fault front =
      let rest = blanks count in
      (front.0, front.1, rest.0, rest.1, carried fault (site_in front.0) (sites_in (front.0 ∷ rest.0)) (bad_front front.0 rest.0) front.2)

  pub named_stops : (commands : List Stamped) (fault : ReplayFault) → ReadsAs site_in remaining (Ok commands) → ReadsNamed count (Err fault) → ReadsBehind remaining count (Err fault)
  unfolding ReadsAs ReadsNamed ReadsBehind
  named_stops commands fault front named =
      (front.0, front.1, named.0, named.1, carried fault (sites_in named.0) (sites_in (front.0 ∷ named.0)) (λ place bad. bad_behind front.0 named.0 commands place front.2 bad) named.2)

  pub without_memory : (commands : List Stamped) → ReadsAs site_in remaining (Ok commands) → ReadsBehind remaining count (Err NoMemory)
  unfolding ReadsAs ReadsBehind
  without_memory commands front =
      let rest = blanks count in
      (front.0, front.1, rest.0, rest.1, tt)

-- ---- how a run ends

module _ (kit : KitView) (target : Target) (remaining : Option (List ℕ)) (count : ℕ) where
  pub shown : (commands : List Stamped) (end : Ending) → ReadsBehind remaining count (Ok commands) → end ≡ page_ending kit target (Ok commands) → EndsBehind kit target remaining count end
  unfolding ReadsBehind EndsBehind
  shown commands end reads is = (reads.0, reads.1, reads.2, reads.3, inl (is ∙ ap (page_ending kit target) (sym reads.4)))

  pub missed : (fault : ReplayFault) → ReadsBehind remaining count (Err fault) → EndsBehind kit target remaining count (Fault fault)
  unfolding ReadsBehind EndsBehind
  missed NoMemory reads = (reads.0, reads.1, reads.2, reads.3, inr tt)
  missed ReadFault reads = (reads.0, reads.1, reads.2, reads.3, inr tt)
  missed BadSchedule reads = (reads.0, reads.1, reads.2, reads.3, inl (ap (page_ending kit target) (sym reads.4.1)))
  missed WriteFault reads = absurd reads.4

pub outside : (kit : KitView) (target : Target) (remaining : Option (List ℕ)) (count : ℕ) (end : Ending) → IsOutside end → EndsBehind kit target remaining count end
unfolding EndsBehind
outside kit target None count end is = let rest = blanks count in ([], tt, rest.0, rest.1, inr is)
outside kit target (Some told) count end is = let rest = blanks count in (told, refl, rest.0, rest.1, inr is)
