-- A list of values in which each token is used once: a command whose token an earlier value has, whatever either asks for, is left with nothing but its
-- moment (own).
use Rattle.std.specs.Prelude.{List, [], ◌∷◌, Bool, false, if◌then◌else◌, ◌&&◌, ◌==◌, bytes_eq}
use Rattle.std.specs.List.{list_any}
use Rattle.press_site.specs.declared.token.Token.{Token}
use Rattle.press_apply.specs.declared.value.Value.{Value}
use Rattle.press_apply.specs.declared.value.Value.TheVariants.{Noop, Cmd}

abbrev pub is_same : Token → Token → Bool
is_same t u = bytes_eq t.editor u.editor && t.seq == u.seq

abbrev pub has_token : Token → Value → Bool
has_token token (Noop at) = false
has_token token (Cmd c) = is_same token c.token

abbrev pub first_use : List Value → Value → Value
first_use earlier (Noop at) = Noop at
first_use earlier (Cmd c) = if list_any (has_token c.token) earlier then Noop c.at else Cmd c

abbrev pub once_after : List Value → List Value → List Value
once_after earlier [] = []
once_after earlier (v ∷ vs) = first_use earlier v ∷ once_after (v ∷ earlier) vs

abbrev pub each_token_once : List Value → List Value
each_token_once values = once_after [] values
