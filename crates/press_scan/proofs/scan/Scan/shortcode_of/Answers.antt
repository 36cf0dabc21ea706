use Rattle.std.proofs.Common.{◌≡◌, List, ℕ, subst}
use Rattle.press_scan.specs.Missing.{AreMissing}
use Rattle.press_scan.specs.Openings.{IsMade, IsNamed}
use Rattle.press_scan.specs.Shortcodes.{IsNext}
use Rattle.press_scan.specs.Tags.{names_of}
use Rattle.press_scan.proofs.Heads.{made_next}
use Rattle.std.specs.Prelude.{string_bytes}
use Rattle.press_scan.proofs.scan.Scan.shortcode_of.Goals as goal

pub stands-requires : goal.stands-requires
stands-requires c =
    let read : c.as_bytes.result.now ≡ c.args.self.now.text = cc in
    let made = subst (λ (t : List ℕ). IsMade t c.args.opening c.in_ok-shortcode.shortcode) read c.in_ok-shortcode.ensures.made in
    let next = made_next _ _ _ _ _ c.requires.opening made in
    let text : c.args.self.now.text ≡ c.as_str.result.now = cc in
    let at : c.args.self.now.at ≡ c.self.inside.at = cc in (
    record {
      next = subst (λ (k : ℕ). IsNext c.as_str.result.now (names_of c.args.tags.now) k c.in_ok-shortcode.shortcode) at (subst (λ (t : List ℕ). IsNext t (names_of c.args.tags.now) c.args.self.now.at c.in_ok-shortcode.shortcode) text next);
    }
    )

pub returns-clause-next : goal.returns-clause-next
returns-clause-next c =
    let read : c.as_bytes.result.now ≡ c.args.self.now.text = cc in
    made_next _ _ _ _ _ c.requires.opening (subst (λ (t : List ℕ). IsMade t c.args.opening c.in_ok-shortcode.shortcode) read c.in_ok-shortcode.ensures.made)

pub invariant_of-self-2 : goal.invariant_of-self-2
invariant_of-self-2 c =
    let named = subst (λ (t : List ℕ). IsNamed t c.in_ok-shortcode.shortcode) c.as_str.ensures.value c.stands.ensures.named in (
      c.self.invariant.0,
      subst (λ (t : List ℕ). AreMissing t c.shortcode_of.new.missing.items) c.as_bytes.ensures.value c.in_ok-shortcode.ensures.missing,
      c.self.invariant.2,
      λ f e. (let same : c.in_ok-shortcode.shortcode ≡ f = cc in subst (IsNamed (string_bytes c.self.inside.text)) same named),
    )
