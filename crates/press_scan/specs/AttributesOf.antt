-- The attributes of a text as a computation (Shortcode API). It says the same as the relation `IsAttributes`.
use Rattle.std.specs.Prelude.{ℕ, zero, suc, ◌+◌, ◌&&◌, ◌||◌, List, [], ◌∷◌, length, Bool, true, false, not, ltb, leb, Option, Some, None, slice_index}
use Rattle.press_scan.specs.Seeking.{first_from, first_place}
use Rattle.press_scan.specs.FirstShortcode.{stands, stops_name}
use Rattle.press_scan.specs.Tokens.{is_space}
use Rattle.press_scan.specs.Attributes.{add_tokens}
use Rattle.press_scan.specs.declared.span.Span.{Span}
use Rattle.press_scan.specs.declared.token.Token.{Token}
use Rattle.press_scan.specs.declared.token.NamePart.{NamePart}
use Rattle.press_scan.specs.declared.token.ValuePart.{ValuePart}
use Rattle.press_scan.specs.declared.att.Att.{Att}

abbrev pub begins : List ℕ → ℕ → Bool
begins text place = not (is_space (slice_index text place))

-- the first place without a space
abbrev pub past_spaces : List ℕ → ℕ → ℕ
past_spaces text from = first_from (begins text) from (length text)

-- whether a token may end before a place
abbrev pub may_end : List ℕ → ℕ → Bool
may_end text place = is_space (slice_index text place) || leb (length text) place

abbrev pub stops_word : List ℕ → ℕ → Bool
stops_word text place = may_end text place || (stands text 34 place || stands text 39 place)

-- a name, and an `=` after it
abbrev pub name_before : List ℕ → Span → ℕ → Option NamePart
name_before text name equals = elim (ltb name.start name.end && stands text 61 equals) [
  | true ↦ Some (record { name = name; next = past_spaces text (equals + 1) })
  | false ↦ None
]

-- `name=`, with spaces round the `=`
abbrev pub name_in : List ℕ → ℕ → Option NamePart
name_in text place = let end = first_from (stops_name text) place (length text) in name_before text (record { start = place; end = end }) (past_spaces text end)

-- a value up to its closing quote, after which the token must end
abbrev pub closed_by : List ℕ → ℕ → Option ℕ → Option ValuePart
closed_by text place None = None
closed_by text place (Some close) = elim (may_end text (close + 1)) [ true ↦ Some (record { value = record { start = place + 1; end = close }; end = close + 1 }) | false ↦ None ]

abbrev pub quoted_in : ℕ → List ℕ → ℕ → Option ValuePart
quoted_in quote text place = elim (stands text quote place) [ true ↦ closed_by text place (first_place (stands text quote) (place + 1) (length text)) | false ↦ None ]

abbrev pub word_to : List ℕ → ℕ → ℕ → Option ValuePart
word_to text place end = elim (ltb place end && may_end text end) [ true ↦ Some (record { value = record { start = place; end = end }; end = end }) | false ↦ None ]

-- one or more bytes without space or quote
abbrev pub word_in : List ℕ → ℕ → Option ValuePart
word_in text place = word_to text place (first_from (stops_word text) place (length text))

-- a run of non-spaces
abbrev pub run_in : List ℕ → ℕ → ValuePart
run_in text place = let end = first_from (may_end text) place (length text) in record { value = record { start = place; end = end }; end = end }

abbrev pub token_of : Option Span → ValuePart → Token
token_of name part = record { name = name; value = part.value; end = part.end }

abbrev pub token_or : Option Span → Option ValuePart → Token → Token
token_or name (Some part) other = token_of name part
token_or name None other = other

abbrev pub nameless_in : List ℕ → ℕ → Token
nameless_in text place = token_or None (quoted_in 34 text place) (token_or None (quoted_in 39 text place) (token_of None (run_in text place)))

abbrev pub named_or : List ℕ → Option NamePart → Token → Token
named_or text (Some part) other = token_or (Some part.name) (quoted_in 34 text part.next) (token_or (Some part.name) (quoted_in 39 text part.next) (token_or (Some part.name) (word_in text part.next) other))
named_or text None other = other

-- the token at a place
abbrev pub token_in : List ℕ → ℕ → Token
token_in text place = named_or text (name_in text place) (nameless_in text place)

-- at most so many tokens from a place on
abbrev pub tokens_in : List ℕ → ℕ → ℕ → List Token
tokens_in text from zero = []
tokens_in text from (suc n) = elim (ltb (past_spaces text from) (length text)) [
  | true ↦ token_in text (past_spaces text from) ∷ tokens_in text (token_in text (past_spaces text from)).end n
  | false ↦ []
]

-- the attributes of a text
unfoldable pub attributes_of : List ℕ → List Att
attributes_of text = (add_tokens text (record { atts = []; next = 0 }) (tokens_in text 0 (length text))).atts
