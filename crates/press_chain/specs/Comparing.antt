-- Whether two chains are of the same values, by what one of them tells of itself (own).
use Rattle.std.specs.Prelude.{ℕ, ◌≡◌, ◌≢◌, ◌⊎◌, Bool, true, false, List}
use Rattle.press_apply.specs.declared.value.Value.{Value}
use Rattle.press_chain.specs.Chains.{block_at, digest_at, is_kept}
use Rattle.press_chain.specs.declared.comparison.Comparison.{Comparison}
use Rattle.press_chain.specs.declared.comparison.Comparison.TheVariants.{Same, Other, Unknown}
use Rattle.press_chain.specs.declared.tip.Tip.{Tip}

-- of two digests
abbrev pub Compares : List ℕ → List ℕ → Comparison → Type 0
Compares own theirs result = ((own ≡ theirs) × (result ≡ Same)) ⊎ ((own ≢ theirs) × (result ≡ Other))

abbrev pub ComparesWhere : (is_kept has_block : Bool) → List Value → Tip → Comparison → Type 0
ComparesWhere true has_block values tip result = Compares (digest_at values tip.count) tip.digest result
ComparesWhere false true values tip result = Compares (digest_at values (block_at tip.count)) tip.block_digest result
ComparesWhere false false values tip result = result ≡ Unknown

-- who keeps the digests of so many of these values compares where the other is, or else at the last
-- multiple of 64 before that
abbrev pub ComparesTip : ℕ → List Value → Tip → Comparison → Type 0
ComparesTip count values tip result = ComparesWhere (is_kept count tip.count) (is_kept count (block_at tip.count)) values tip result
