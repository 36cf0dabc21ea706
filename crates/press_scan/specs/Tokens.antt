-- Attributes (the Shortcode API): how an attribute text splits into tokens.
use Rattle.std.specs.Prelude.{◌≡◌, ◌⊎◌, ℕ, ◌+◌, ◌<◌, ◌≤◌, ◌||◌, ◌==◌, List, [], ◌∷◌, length, Bool, true, false, nat_le, ◌&&◌, Some, None, slice_index}
use Rattle.press_scan.specs.Places.{At, AtNoName, IsFirst}
use Rattle.press_scan.specs.declared.span.Span.{Span}
use Rattle.press_scan.specs.declared.token.Token.{Token}

-- bytes 09 to 0D and 20
abbrev pub is_space : ℕ → Bool
is_space b = (nat_le 9 b && nat_le b 13) || b == 32

-- no space is at p
abbrev pub NoSpace : List ℕ → ℕ → Type 0
NoSpace text p = is_space (slice_index text p) ≡ false

-- a space is at p, or the text has ended
abbrev pub Ends : List ℕ → ℕ → Type 0
Ends text p = (is_space (slice_index text p) ≡ true) ⊎ (length text ≤ p)

-- a bare value stops at a space, a quote or the end
abbrev pub StopsBare : List ℕ → ℕ → Type 0
StopsBare text p = Ends text p ⊎ At text 34 p ⊎ At text 39 p

-- `name=` with spaces round the `=`; what follows begins at `next`
pub record IsNamed (text : List ℕ) (place : ℕ) (name : Span) (next : ℕ) : Type 0 where
  pub starts : name.start ≡ place
  pub some : place < name.end
  pub longest : IsFirst (AtNoName text) place name.end
  pub equals : ℕ
  pub spaces : IsFirst (NoSpace text) name.end equals
  pub sign : At text 61 equals
  pub after : IsFirst (NoSpace text) (equals + 1) next

-- a value between two quotes q, followed by a space or the end
pub record IsQuoted (q : ℕ) (text : List ℕ) (place : ℕ) (value : Span) (end : ℕ) : Type 0 where
  pub opens : At text q place
  pub starts : value.start ≡ place + 1
  pub closes : IsFirst (At text q) (place + 1) value.end
  pub next : end ≡ value.end + 1
  pub ends : Ends text end

-- one or more bytes without space or quote, followed by a space or the end
pub record IsBare (text : List ℕ) (place : ℕ) (value : Span) (end : ℕ) : Type 0 where
  pub starts : value.start ≡ place
  pub some : place < end
  pub longest : IsFirst (StopsBare text) place end
  pub next : value.end ≡ end
  pub ends : Ends text end

-- a run of non-spaces
pub record IsRun (text : List ℕ) (place : ℕ) (value : Span) (end : ℕ) : Type 0 where
  pub starts : value.start ≡ place
  pub longest : IsFirst (Ends text) place end
  pub next : value.end ≡ end

-- what a value may be
abbrev pub Form : Type 1
Form = List ℕ → ℕ → Span → ℕ → Type 0

-- a token with a name, whose value has the form
pub record Named (F : Form) (text : List ℕ) (place : ℕ) (t : Token) : Type 0 where
  pub name : Span
  pub called : t.name ≡ Some name
  pub next : ℕ
  pub named : IsNamed text place name next
  pub value : F text next t.value t.end

-- a token without a name
pub record Nameless (F : Form) (text : List ℕ) (place : ℕ) (t : Token) : Type 0 where
  pub called : t.name ≡ None
  pub value : F text place t.value t.end

-- The token at a place: of the first form that fits of
-- `name="v"`, `name='v'`, `name=v`, `"v"`, `'v'`, a run of non-spaces.
abbrev pub forms : List (List ℕ → ℕ → Token → Type 0)
forms = Named (IsQuoted 34) ∷ Named (IsQuoted 39) ∷ Named IsBare ∷ Nameless (IsQuoted 34) ∷ Nameless (IsQuoted 39) ∷ Nameless IsRun ∷ []

abbrev pub FirstFits : List (List ℕ → ℕ → Token → Type 0) → List ℕ → ℕ → Token → Type 0
FirstFits [] text place t = ⊥
FirstFits (F ∷ Fs) text place t = F text place t ⊎ ((u : Token) → F text place u → ⊥) × FirstFits Fs text place t

abbrev pub IsToken : List ℕ → ℕ → Token → Type 0
IsToken text place t = FirstFits forms text place t

-- the same in two halves, for the code
abbrev pub IsNamedToken : List ℕ → ℕ → Token → Type 0
IsNamedToken text place t = Named (IsQuoted 34) text place t ⊎ (((u : Token) → Named (IsQuoted 34) text place u → ⊥) × (Named (IsQuoted 39) text place t ⊎ (((u : Token) → Named (IsQuoted 39) text place u → ⊥) × Named IsBare text place t)))

abbrev pub NoNamedToken : List ℕ → ℕ → Type 0
NoNamedToken text place = ((u : Token) → Named (IsQuoted 34) text place u → ⊥) × ((u : Token) → Named (IsQuoted 39) text place u → ⊥) × ((u : Token) → Named IsBare text place u → ⊥)

abbrev pub IsNamelessToken : List ℕ → ℕ → Token → Type 0
IsNamelessToken text place t = FirstFits (Nameless (IsQuoted 34) ∷ Nameless (IsQuoted 39) ∷ Nameless IsRun ∷ []) text place t

-- The tokens from a place on: each begins at the next non-space.
abbrev pub AreTokens : List ℕ → ℕ → List Token → Type 0
AreTokens text from [] = IsFirst (NoSpace text) from (length text)
AreTokens text from (t ∷ ts) = (place : ℕ) × IsFirst (NoSpace text) from place × (place < length text) × IsToken text place t × AreTokens text t.end ts
