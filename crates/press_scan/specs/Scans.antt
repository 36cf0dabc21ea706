-- The pieces of the meaning of a text: what a scan has done and has still to do.
use Rattle.std.specs.Prelude.{◌≡◌, ◌⊎◌, ℕ, ◌+◌, ◌-◌, ◌<◌, ◌++◌, List, [], ◌∷◌, length, true, Option, Some, None, slice_range, if◌then◌else◌}
use Rattle.press_scan.specs.Places.{NoneBetween}
use Rattle.press_scan.specs.Shortcodes.{IsShortcode, HasShortcode}
use Rattle.std.specs.Prelude.{Result, Ok, Err}
use Rattle.std.specs.declared.alloc.AllocError.{AllocError}
use Rattle.press_scan.specs.declared.scan_step.ScanStep.{ScanStep}
use Rattle.press_scan.specs.declared.scan_step.ScanStep.TheVariants.{Text, Call, End}
use Rattle.press_scan.specs.declared.shortcode.Shortcode.{Shortcode}

-- A scan: its text, the place up to which it is done, the output, and the shortcode whose answer is awaited.
pub record Progress : Type 0 where
  pub text : List ℕ
  pub at : ℕ
  pub output : List ℕ
  pub waiting : Option Shortcode

-- both second brackets are there
abbrev pub IsEscape : Shortcode → Type 0
IsEscape s = (s.lead ≡ true) × (s.tail ≡ true)

-- the front, up to the first shortcode or the end
pub record TakesFront (tags : List (List ℕ)) (old new : Progress) : Type 0 where
  pub output : new.output ≡ old.output ++ slice_range old.text old.at new.at
  pub none : NoneBetween (HasShortcode old.text tags) old.at new.at
  pub first : (new.at ≡ length old.text) ⊎ HasShortcode old.text tags new.at

-- an escape: its text without the first and the last byte
pub record TakesEscape (tags : List (List ℕ)) (old new : Progress) : Type 0 where
  pub shortcode : Shortcode
  pub stands : IsShortcode old.text tags old.at shortcode
  pub escape : IsEscape shortcode
  pub output : new.output ≡ old.output ++ slice_range old.text (shortcode.start + 1) (shortcode.end - 1)
  pub at : new.at ≡ shortcode.end

-- a step without a callback, which takes in at least one byte
pub record TakesText (tags : List (List ℕ)) (old new : Progress) : Type 0 where
  pub text : new.text ≡ old.text
  pub more : old.at < new.at
  pub waiting : new.waiting ≡ None
  pub takes : TakesFront tags old new ⊎ TakesEscape tags old new

-- a shortcode that a callback answers
pub record Calls (tags : List (List ℕ)) (old new : Progress) (s : Shortcode) : Type 0 where
  pub stands : IsShortcode old.text tags old.at s
  pub no_escape : IsEscape s → ⊥
  pub waits : new ≡ record old { waiting = Some s }

-- the brackets round an answer
abbrev pub before : Shortcode → List ℕ
before s = if s.lead then 91 ∷ [] else []

abbrev pub behind : Shortcode → List ℕ
behind s = if s.tail then 93 ∷ [] else []

-- What a step answers. After running out of memory nothing has changed.
abbrev pub StepGives : Result ScanStep AllocError → List (List ℕ) → Progress → Progress → Type 0
StepGives (Ok Text) tags old new = TakesText tags old new
StepGives (Ok (Call s)) tags old new = Calls tags old new s
StepGives (Ok End) tags old new = (old.at ≡ length old.text) × (new ≡ old)
StepGives (Err e) tags old new = new ≡ old

-- What `put` does: the answer between its brackets goes to the output, and the scan goes on after the shortcode.
abbrev pub PutGives : Result (Unit {0}) AllocError → List ℕ → Progress → Progress → Type 0
PutGives (Ok u) answer old new = (s : Shortcode) × (old.waiting ≡ Some s) × (new ≡ record old { at = s.end; output = old.output ++ (before s ++ (answer ++ behind s)); waiting = None })
PutGives (Err e) answer old new = new ≡ old
