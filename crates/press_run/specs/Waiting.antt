-- A frame that waits, where a callback's attributes may stand beside it.
use Rattle.std.specs.Prelude.{◌<◌, List, [], ◌∷◌, length}
use Rattle.press_scan.specs.declared.att.Att.{Att}
use Rattle.press_run.specs.declared.frame.OpenCallback.{OpenCallback}
use Rattle.press_run.specs.declared.frame.Frame.{Frame}
use Rattle.press_run.specs.declared.frame.Frame.TheVariants as frame
use Rattle.press_run.specs.declared.waiting.Stowed.{Stowed}
use Rattle.press_run.specs.declared.waiting.Stowed.TheVariants.{Whole, Folded}

-- a callback with other attributes
abbrev pub with_atts : OpenCallback → List Att → OpenCallback
with_atts c atts = record c { call = record (c.call) { atts = atts } }

-- the frame that waits, with its attributes put back
abbrev pub frame_of : Stowed → Frame
frame_of (Whole f) = f
frame_of (Folded c atts) = frame.Callback (with_atts c atts)

-- a callback with so many attributes that they may have been folded
abbrev pub HasManyAtts : Frame → Type 0
HasManyAtts (frame.Callback c) = 64 < length c.call.atts
HasManyAtts (frame.Hook h) = ⊥
HasManyAtts (frame.Fires f) = ⊥
HasManyAtts (frame.Scan f) = ⊥

-- the same of the innermost frame
abbrev pub FirstHasManyAtts : List Frame → Type 0
FirstHasManyAtts [] = ⊥
FirstHasManyAtts (f ∷ fs) = HasManyAtts f
