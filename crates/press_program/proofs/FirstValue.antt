-- What `get_str` reads is the first value of the rows, and `get_strs` all of them.
use Rattle.std.proofs.Common.{◌≡◌}
use Rattle.clap.specs.declared.parser.matches.Found.{Found}
use Rattle.clap.specs.Words.{Text, all_of, first_of, first_value, matched_of, raw_values, rows_of}
use Rattle.clap.proofs.WalkLemmas.{first_value-rows, raw_values-rows}
use Rattle.std.specs.Prelude.{option_map}

pub first_is : (f : Found) (id : Text) → first_value f id ≡ first_of id (rows_of f)
first_is f id = first_value-rows f id

pub all_are : (f : Found) (id : Text) → option_map raw_values (matched_of f id) ≡ all_of id (rows_of f)
all_are f id = raw_values-rows f id
