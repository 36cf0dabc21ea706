-- A token's outcome is stored once and stays, so a later use of the token is nothing but a moment.
use Rattle.std.proofs.Common.{◌≡◌, refl, sym, ap, ◌∙◌, Bool, true, false, if◌then◌else◌, ◌||◌, List, [], ◌∷◌, Option, Some, None, Result, Ok, Err, ℕ, true≢false}
use Rattle.std.specs.List.{list_any}
use Rattle.press_callbacks.specs.Kits.{KitView}
use Rattle.press_site.specs.declared.token.Outcome.{Outcome}
use Rattle.press_site.specs.declared.token.Outcome.TheVariants.{Done, Refused}
use Rattle.press_site.specs.declared.token.Token.{Token}
use Rattle.press_site.specs.Effects.{no_site}
use Rattle.press_site.specs.Outcomes.{outcome_of}
use Rattle.press_site.specs.SiteView.{SiteView}
use Rattle.press_apply.specs.Apply.{applied, applied_where, at_moment, fold_values, keep_outcome, site_after, work_of}
use Rattle.press_apply.specs.Faults.{apply_fault_number}
use Rattle.press_apply.specs.Tokens.{each_token_once, has_token, is_same, once_after}
use Rattle.press_apply.specs.declared.command.Stamped.{Stamped}
use Rattle.press_apply.specs.declared.fault.ApplyFault.{ApplyFault}
use Rattle.press_apply.specs.declared.value.Value.{Value}
use Rattle.press_apply.specs.declared.value.Value.TheVariants.{Noop, Cmd}
use Rattle.press_apply.proofs.Lookups.{found_new, found_still, is_same-Decides}

-- ---- one value

settled_stored : (s : SiteView) (token : Token) (work : Result (SiteView × ℕ) ApplyFault) → outcome_of token (keep_outcome s token work).0.outcomes ≡ Some (keep_outcome s token work).1
settled_stored s token (Ok done) = found_new token (Done done.1) s.outcomes
settled_stored s token (Err fault) = found_new token (Refused (apply_fault_number fault)) s.outcomes

stored_where : (kit : KitView) (s : SiteView) (c : Stamped) (before : Option Outcome) → outcome_of c.token s.outcomes ≡ before → outcome_of c.token (applied_where kit s c before).0.outcomes ≡ Some (applied_where kit s c before).1
stored_where kit s c (Some outcome) e = e
stored_where kit s c None e = settled_stored s c.token (work_of kit s c.command)

pub stored : (kit : KitView) (s : SiteView) (c : Stamped) → outcome_of c.token (applied kit s (Cmd c)).0.outcomes ≡ Some (applied kit s (Cmd c)).1
stored kit s c = stored_where kit (at_moment c.at s) c (outcome_of c.token s.outcomes) refl

settled_keeps : (s : SiteView) (token other : Token) (kept : Outcome) (work : Result (SiteView × ℕ) ApplyFault) → outcome_of token s.outcomes ≡ None → outcome_of other s.outcomes ≡ Some kept → outcome_of other (keep_outcome s token work).0.outcomes ≡ Some kept
settled_keeps s token other kept (Ok done) none some = found_still token other (Done done.1) kept s.outcomes none some
settled_keeps s token other kept (Err fault) none some = found_still token other (Refused (apply_fault_number fault)) kept s.outcomes none some

keeps_where : (kit : KitView) (s : SiteView) (c : Stamped) (other : Token) (kept : Outcome) (before : Option Outcome) → outcome_of c.token s.outcomes ≡ before → outcome_of other s.outcomes ≡ Some kept → outcome_of other (applied_where kit s c before).0.outcomes ≡ Some kept
keeps_where kit s c other kept (Some outcome) e some = some
keeps_where kit s c other kept None e some = settled_keeps s c.token other kept (work_of kit s c.command) e some

keeps : (kit : KitView) (s : SiteView) (v : Value) (token : Token) (kept : Outcome) → outcome_of token s.outcomes ≡ Some kept → outcome_of token (applied kit s v).0.outcomes ≡ Some kept
keeps kit s (Noop at) token kept some = some
keeps kit s (Cmd c) token kept some = keeps_where kit (at_moment c.at s) c token kept (outcome_of c.token s.outcomes) refl some

pub known : (kit : KitView) (s : SiteView) (c : Stamped) (kept : Outcome) → outcome_of c.token s.outcomes ≡ Some kept → applied kit s (Cmd c) ≡ (at_moment c.at s, kept)
known kit s c kept e = ap (applied_where kit (at_moment c.at s) c) e

-- ---- values in their order

pub stays : (kit : KitView) (s : SiteView) (token : Token) (kept : Outcome) (later : List Value) → outcome_of token s.outcomes ≡ Some kept → outcome_of token (fold_values kit s later).outcomes ≡ Some kept
stays kit s token kept [] e = e
stays kit s token kept (v ∷ vs) e = stays kit (applied kit s v).0 token kept vs (keeps kit s v token kept e)

pub answers : (kit : KitView) (s : SiteView) (c again : Stamped) (between : List Value) → again.token ≡ c.token → applied kit (fold_values kit (applied kit s (Cmd c)).0 between) (Cmd again) ≡ (at_moment again.at (fold_values kit (applied kit s (Cmd c)).0 between), (applied kit s (Cmd c)).1)
answers kit s c again between e =
    let after : SiteView = fold_values kit (applied kit s (Cmd c)).0 between in
    let still : outcome_of c.token after.outcomes ≡ Some (applied kit s (Cmd c)).1 = stays kit (applied kit s (Cmd c)).0 c.token (applied kit s (Cmd c)).1 between (stored kit s c) in
    known kit after again (applied kit s (Cmd c)).1 (ap (λ t. outcome_of t after.outcomes) e ∙ still)

-- ---- each token once

-- the tokens of earlier values have their outcomes
abbrev Knows : List Value → SiteView → Type 0
Knows earlier s = (t : Token) → list_any (has_token t) earlier ≡ true → (kept : Outcome) × (outcome_of t s.outcomes ≡ Some kept)

knows_more : (earlier : List Value) (s s' : SiteView) (c : Stamped) → Knows earlier s → ((t : Token) (kept : Outcome) → outcome_of t s.outcomes ≡ Some kept → outcome_of t s'.outcomes ≡ Some kept) → (kept : Outcome) → outcome_of c.token s'.outcomes ≡ Some kept → Knows (Cmd c ∷ earlier) s'
knows_more earlier s s' c before still kept new t stands = by (is_same t c.token) refl stands
  where
    by : (b : Bool) → is_same t c.token ≡ b → (b || list_any (has_token t) earlier) ≡ true → (o : Outcome) × (outcome_of t s'.outcomes ≡ Some o)
    by true e h = (kept, ap (λ k. outcome_of k s'.outcomes) ((is_same-Decides t c.token).0 e) ∙ new)
    by false e h = let found = before t h in (found.0, still t found.0 found.1)

once_from : (kit : KitView) (earlier : List Value) (s : SiteView) (values : List Value) → Knows earlier s → fold_values kit s (once_after earlier values) ≡ fold_values kit s values
once_from kit earlier s [] before = refl
once_from kit earlier s (Noop at ∷ vs) before = once_from kit (Noop at ∷ earlier) (at_moment at s) vs before
once_from kit earlier s (Cmd c ∷ vs) before = by (list_any (has_token c.token) earlier) refl (λ s'. once_from kit (Cmd c ∷ earlier) s' vs)
  where
    by : (b : Bool) → list_any (has_token c.token) earlier ≡ b → ((s' : SiteView) → Knows (Cmd c ∷ earlier) s' → fold_values kit s' (once_after (Cmd c ∷ earlier) vs) ≡ fold_values kit s' vs)
        → fold_values kit s ((if b then Noop c.at else Cmd c) ∷ once_after (Cmd c ∷ earlier) vs) ≡ fold_values kit s (Cmd c ∷ vs)
    by true e rest =
        let found = before c.token e in
        rest (at_moment c.at s) (knows_more earlier s (at_moment c.at s) c before (λ t kept some. some) found.0 found.1) ∙ sym (ap (λ x. fold_values kit x.0 vs) (known kit s c found.0 found.1))
    by false e rest = rest (applied kit s (Cmd c)).0 (knows_more earlier s (applied kit s (Cmd c)).0 c before (keeps kit s (Cmd c)) (applied kit s (Cmd c)).1 (stored kit s c))

pub once : (kit : KitView) (values : List Value) → site_after kit (each_token_once values) ≡ site_after kit values
once kit values = once_from kit [] no_site values (λ t e. absurd (true≢false (sym e)))
