use Rattle.std.proofs.Common.{◌≡◌, ◌++◌, map}
use Rattle.press_site.specs.Options.{by_bytes, set_option_of}
use Rattle.press_site.proofs.options.Options.all.Given as goal

abbrev pub invariant-loop-name : goal.invariant-loop-name
invariant-loop-name l =
    l.all.items ++ map set_option_of (by_bytes l.name-iterator) ≡ map set_option_of (by_bytes l.initial.self-inside.values.entries)
