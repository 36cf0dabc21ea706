-- What `press serve` tells of a fault: its line, and behind that, in words, what it is of (own).
use Rattle.std.specs.Prelude.{ℕ, List, [], ◌++◌, ◌==◌, codes, decimal, if◌then◌else◌, Option, None, Some, option_map, unwrap_or}
use Rattle.press_store.specs.declared.owner.Owner.{Owner}
use Rattle.press_server.specs.declared.serve_fault.Foreign.{Foreign}
use Rattle.press_server.specs.Listening.Where.{alone_at, member_of, new_member_of}
use Rattle.press_server.specs.Listening.{Where}
use Rattle.press_server.specs.declared.serve_fault.ServeFault.{ServeFault}
use Rattle.press_server.specs.declared.serve_fault.ServeFault.TheVariants as fault
use Rattle.press_program.specs.Words.{Server}
use Rattle.press_program.specs.declared.reasons.Phrase as declared
use Rattle.press_program.specs.declared.reasons.Subject.{Subject}
use Rattle.press_program.specs.declared.reasons.Subject.TheVariants.{Nothing, ItsPlace, ItsStore, ItsPage}

abbrev pub serve_line : ServeFault → List ℕ
serve_line fault.BadPeers = codes "press: usage\n"
serve_line fault.NoMemory = codes "press: fault 0\n"
serve_line fault.NoConnections = codes "press: fault 40\n"
serve_line fault.Taken = codes "press: fault 40\n"
serve_line fault.NotAllowed = codes "press: fault 40\n"
serve_line fault.NotHere = codes "press: fault 40\n"
serve_line fault.NotFound = codes "press: fault 40\n"
serve_line fault.FewFiles = codes "press: fault 40\n"
serve_line fault.ReadFault = codes "press: fault 40\n"
serve_line fault.WriteFault = codes "press: fault 42\n"
serve_line (fault.Foreign foreign) = codes "press: the store is another member's\n"
serve_line fault.NoStore = codes "press: fault 40\n"
serve_line fault.StoreThere = codes "press: fault 40\n"
serve_line fault.Forgotten = codes "press: the store has forgotten\n"
serve_line fault.Disk = codes "press: fault 50\n"
serve_line fault.Damaged = codes "press: fault 51\n"
serve_line fault.StoreTaken = codes "press: fault 51\n"
serve_line fault.NoFolder = codes "press: fault 51\n"
serve_line fault.StoreShut = codes "press: fault 51\n"

-- what stands before the name of the subject, and what behind it
pub record Phrase : Type 0 where
  pub before : List ℕ
  pub subject : Subject
  pub behind : List ℕ

abbrev pub view_of : declared.Phrase → Phrase
view_of p = record { before = p.before.now; subject = p.subject; behind = p.behind.now }

abbrev pub plain : List ℕ → Phrase
plain words = record { before = words; subject = Nothing; behind = codes "" }

abbrev pub of_place : List ℕ → Phrase
of_place behind = record { before = codes ""; subject = ItsPlace; behind = behind }

abbrev pub of_store : List ℕ → Phrase
of_store behind = record { before = codes "the store "; subject = ItsStore; behind = behind }

-- in words, but for what its line says already
abbrev pub phrase_of : ServeFault → Option Phrase
phrase_of fault.BadPeers = None
phrase_of fault.NoMemory = Some (plain (codes "out of memory"))
phrase_of fault.NoConnections = Some (plain (codes "no connection can be opened"))
phrase_of fault.Taken = Some (of_place (codes " is taken"))
phrase_of fault.NotAllowed = Some (of_place (codes " may not be opened by this user"))
phrase_of fault.NotHere = Some (of_place (codes " is none of this machine"))
phrase_of fault.NotFound = Some (of_place (codes " is not found"))
phrase_of fault.FewFiles = Some (plain (codes "too few files may be open"))
phrase_of fault.ReadFault = Some (record { before = codes "the page for editors "; subject = ItsPage; behind = codes " cannot be read" })
phrase_of fault.WriteFault = Some (plain (codes "the line that it listens cannot be written"))
phrase_of (fault.Foreign foreign) = None
phrase_of fault.NoStore = Some (of_store (codes " is not there, or empty: --new makes that of a new member"))
phrase_of fault.StoreThere = Some (of_store (codes " is there already, and is left as it is"))
phrase_of fault.Forgotten = Some (of_store (codes " lacks what another member heard of this one"))
phrase_of fault.Disk = Some (of_store (codes " cannot be read or written"))
phrase_of fault.Damaged = Some (of_store (codes " is damaged, or is no store"))
phrase_of fault.StoreTaken = Some (of_store (codes " is open in another process"))
phrase_of fault.NoFolder = Some (record { before = codes "the folder of the store "; subject = ItsStore; behind = codes " does not exist" })
phrase_of fault.StoreShut = Some (of_store (codes " cannot be opened"))

unfoldable pub place_name : Where → List ℕ
place_name (alone_at port) = codes "port " ++ decimal port
place_name (member_of id peers) = codes "the address of member " ++ (decimal id ++ (codes " of " ++ peers))
place_name (new_member_of id peers) = codes "the address of member " ++ (decimal id ++ (codes " of " ++ peers))

abbrev pub name_of : Subject → Server → List ℕ
name_of Nothing server = codes ""
name_of ItsPlace server = place_name server.place
name_of ItsStore server = unwrap_or server.store (codes "")
name_of ItsPage server = unwrap_or server.editor (codes "")

unfoldable pub line_around : List ℕ → List ℕ → List ℕ → List ℕ
line_around before name behind = codes "press: " ++ (before ++ (name ++ (behind ++ codes "\n")))

-- ---- a file that is another's

-- the text that lists the members
abbrev pub peers_of : Where → List ℕ
peers_of (alone_at port) = codes ""
peers_of (member_of id peers) = peers
peers_of (new_member_of id peers) = peers

-- a line about the store, where two numbers differ
abbrev pub unlike_line : (file : List ℕ) (there here : ℕ) (behind : List ℕ) → List ℕ
unlike_line file there here behind = if there == here then [] else line_around (codes "the store ") file behind

unfoldable pub other_number : (there here : ℕ) → List ℕ
other_number there here = codes " is that of member " ++ (decimal there ++ (codes ", not " ++ decimal here))

unfoldable pub other_count : (there here : ℕ) → List ℕ
other_count there here = codes " is that of one of " ++ (decimal there ++ (codes " members, not " ++ decimal here))

unfoldable pub other_list : List ℕ → List ℕ
other_list peers = codes " has another list of peers than " ++ peers

unfoldable pub members_store : (number members : ℕ) → List ℕ
members_store number members = codes " is that of member " ++ (decimal number ++ (codes " of " ++ decimal members))

-- A line for each that differs: the member's number, the count of members, and the list of them, of
-- which the file has a digest; of a node by itself, whose it is.
abbrev pub foreign_lines : (file peers : List ℕ) → Owner → Option Owner → List ℕ
foreign_lines file peers owner None = line_around (codes "the store ") file (members_store owner.number owner.members)
foreign_lines file peers owner (Some asked) =
    unlike_line file owner.number asked.number (other_number owner.number asked.number)
    ++ (unlike_line file owner.members asked.members (other_count owner.members asked.members)
    ++ unlike_line file owner.peers asked.peers (other_list peers))

abbrev pub store_name : Server → List ℕ
store_name server = unwrap_or server.store (codes "")

abbrev pub reason_of : ServeFault → Server → Option (List ℕ)
reason_of (fault.Foreign foreign) server = Some (foreign_lines (store_name server) (peers_of server.place) foreign.owner foreign.asked)
reason_of fault server = option_map (λ (p : Phrase). line_around p.before (name_of p.subject server) p.behind) (phrase_of fault)
