-- What several kit files give together: one kit, with the share of each file in it; or the first of
-- them that is bad by itself (own).
use Rattle.std.specs.Prelude.{ℕ, List, [], ◌∷◌, ◌++◌, map, length, Result, Ok, Err}
use Rattle.press_kit.specs.KitFile.{kit_in}
use Rattle.press_kit.specs.declared.kit_parts.KitParts.{KitParts}
use Rattle.press_kit.specs.declared.place.Place.{Place}
use Rattle.press_lint.specs.declared.joint.Joint as declared
use Rattle.press_lint.specs.declared.joint.NamedFile.{NamedFile}
use Rattle.press_lint.specs.declared.joint.Share as told

-- the kit of no file
abbrev pub no_parts : KitParts
no_parts = record { callbacks = []; plugins = [] }

-- the callbacks of a file behind those of the files before it, and its plugins likewise
abbrev pub join : KitParts → KitParts → KitParts
join kit other = record { callbacks = kit.callbacks ++ other.callbacks; plugins = kit.plugins ++ other.plugins }

pub record File : Type 0 where
  pub name : List ℕ
  pub bytes : List ℕ

-- of a file, by its name: how many callbacks and plugins of the kit are its own
pub record Share : Type 0 where
  pub file : List ℕ
  pub callbacks : ℕ
  pub plugins : ℕ

-- the callbacks and plugins of all files, in the order of the shares
pub record Joint : Type 0 where
  pub kit : KitParts
  pub shares : List Share

abbrev pub empty_joint : Joint
empty_joint = record { kit = no_parts; shares = [] }

abbrev pub share_in : File → KitParts → Share
share_in file kit = record { file = file.name; callbacks = length kit.callbacks; plugins = length kit.plugins }

-- with what one more file gave
abbrev pub with_file : Joint → File → KitParts → Joint
with_file joint file kit = record { kit = join joint.kit kit; shares = joint.shares ++ share_in file kit ∷ [] }

-- of one file
abbrev pub joint_of_one : File → KitParts → Joint
joint_of_one file kit = with_file empty_joint file kit

-- what follows a file that gives a kit; else it is bad at a place
abbrev pub read_then : File → Result KitParts Place → (KitParts → Result Joint (File × Place)) → Result Joint (File × Place)
read_then file (Ok kit) next = next kit
read_then file (Err at) next = Err (file, at)

-- what was read before, with further files
unfoldable pub read_behind : Joint → List File → Result Joint (File × Place)
read_behind joint [] = Ok joint
read_behind joint (file ∷ files) = read_then file (kit_in file.bytes) (λ kit. read_behind (with_file joint file kit) files)

abbrev pub read_together : List File → Result Joint (File × Place)
read_together files = read_behind empty_joint files

-- ---- as they are in memory

abbrev pub file_of : NamedFile → File
file_of f = record { name = f.name.now; bytes = f.bytes.items }

abbrev pub files_of : List NamedFile → List File
files_of files = map file_of files

abbrev pub share_of : told.Share → Share
share_of s = record { file = s.file.now; callbacks = s.callbacks; plugins = s.plugins }

abbrev pub joint_of : declared.Joint → Joint
joint_of joint = record { kit = joint.parts; shares = map share_of joint.shares.items }
