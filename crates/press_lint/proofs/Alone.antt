-- Of several kit files that are but one: it is told as it is by itself.
use Rattle.std.proofs.Common.{◌≡◌, ◌∙◌, ℕ, List, [], ◌++◌, Option, Some, None, refl, ap, ap₂, append-nil}
use Rattle.std.proofs.Math.Seq.{take-length}
use Rattle.press_kit.specs.declared.kit_parts.KitParts.{KitParts}
use Rattle.press_kit.specs.declared.place.Place.{Place}
use Rattle.press_lint.specs.Files.{FileMessage, file_front, tell_named, sharer, slips_from, message_from, message_about, turn_parts}
use Rattle.press_lint.specs.Joints.{File, joint_of_one, share_in}
use Rattle.press_lint.specs.Mistakes.{tell_mistake}
use Rattle.press_lint.specs.Slips.{along, callback_slips, plugin_slips, slips}
use Rattle.press_lint.specs.Told.{name_at}
use Rattle.press_lint.specs.declared.mistake.Mistake.{Mistake}
use Rattle.press_lint.specs.declared.mistake.Why.{Why}
use Rattle.press_lint.specs.declared.mistake.Why.TheVariants.{SameName, BuiltInName, Unknown, TooMany}

abbrev pub mistake_by : Place → Why → Mistake
mistake_by at why = record { at = at; why = why }

abbrev pub message : File → List ℕ → FileMessage
message file text = record { file = file.name; text = text }

unshared : (at : Place) (name : Option (List ℕ)) (kit : KitParts) → tell_named at name [] kit ≡ []
unfolding sharer
unshared at None kit = refl
unshared at (Some name) kit = refl

pub tell_alone : (file : File) (kit : KitParts) (at : Place) (why : Why) → message_about (joint_of_one file kit) (mistake_by at why) ≡ message file (tell_mistake kit (mistake_by at why))
unfolding message_from sharer
tell_alone file kit at SameName =
    let text = tell_mistake kit (mistake_by at SameName) in
    ap (message file) (ap (λ (more : List ℕ). text ++ more) (unshared at (name_at kit at) (turn_parts (share_in file kit) kit)) ∙ append-nil text)
tell_alone file kit at BuiltInName = ap (message file) (append-nil (tell_mistake kit (mistake_by at BuiltInName)))
tell_alone file kit at (Unknown id) = ap (message file) (append-nil (tell_mistake kit (mistake_by at (Unknown id))))
tell_alone file kit at (TooMany sort) = ap (message file) (append-nil (tell_mistake kit (mistake_by at (TooMany sort))))

pub alone_slips : (before : List ℕ) (file : File) (kit : KitParts) → slips_from before (joint_of_one file kit).shares kit ≡ slips (file_front before file.name) kit []
unfolding slips_from
alone_slips before file kit =
    let front = file_front before file.name in
    append-nil _ ∙ ap₂ (λ cs ps. along (callback_slips front kit []) 0 cs ++ along (plugin_slips front kit []) 0 ps) (take-length kit.callbacks) (take-length kit.plugins)
