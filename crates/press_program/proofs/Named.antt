-- Kit files by their names, one read after the other.
use Rattle.std.proofs.Common.{ℕ, ◌<◌, List, length, map, get_or}
use Rattle.std.proofs.lemmas.List.{get_or-map, length-map}
use Rattle.std.specs.Borrow.{Bor}
use Rattle.std.specs.List.{Contains}
use Rattle.press_lint.specs.Joints.{File, files_of}
use Rattle.press_lint.specs.declared.joint.NamedFile.{NamedFile}
use Rattle.press_program.specs.KitFiles.{MeetsAlone, MeetsFault}
use Rattle.press_program.specs.declared.kitting.KitSourceFault.{KitSourceFault}
use Rattle.press_program.specs.declared.kitting.KitSourceFault.TheVariants.{NoMemory, ReadFault, TooLong, Refused}

abbrev pub texts : List (Bor (List ℕ)) → List (List ℕ)
texts names = map (λ n. n.now) names

abbrev pub names_of : List NamedFile → List (List ℕ)
names_of files = map (λ (f : File). f.name) (files_of files)

abbrev pub bytes_of : List NamedFile → List (List ℕ)
bytes_of files = map (λ (f : File). f.bytes) (files_of files)

-- a name of these
pub among : (names : List (Bor (List ℕ))) (i : ℕ) (d : Bor (List ℕ)) → i < length names → Contains (texts names) (get_or names i d).now
among names i d lt = (i, rw (length-map names (λ n. n.now)) lt, get_or-map (λ n. n.now) names i d (get_or names i d).now lt)

pub meets : (names : List (List ℕ)) (file : List ℕ) (fault : KitSourceFault) → MeetsAlone fault → Contains names file → MeetsFault names file fault
meets names file NoMemory alone is = tt
meets names file ReadFault alone is = is
meets names file TooLong alone is = is
meets names file (Refused number text) alone is = absurd alone
