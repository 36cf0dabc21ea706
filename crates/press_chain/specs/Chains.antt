-- The digest of values in their order, each of them hashed behind the digest of those before it,
-- and which of the digests of their fronts are kept (own, over SHA-256 of FIPS 180-4).
use Rattle.std.specs.Prelude.{ℕ, ◌+◌, ◌-◌, ◌*◌, ◌/◌, ◌%◌, ◌==◌, ◌≡◌, ◌≤◌, ◌<◌, ◌⊎◌, ◌||◌, ◌&&◌, Bool, if◌then◌else◌, slice_set, nat_le, nat_lt, List, [], ◌∷◌, ◌++◌, length, take, replicate, slice_get, Some}
use Rattle.sha2.specs.Sha256.{sha256}
use Rattle.press_apply.specs.declared.value.Value.{Value}
use Rattle.press_wire.specs.Spelling.{spelled_command}
use Rattle.press_chain.specs.declared.chain.Chain.{Chain}
use Rattle.press_chain.specs.declared.tip.Tip.{Tip}

-- that of no values
unfoldable pub no_digest : List ℕ
no_digest = replicate 32 0

-- behind one value more
unfoldable pub digest_with : List ℕ → Value → List ℕ
digest_with digest value = sha256 (digest ++ spelled_command value)

-- behind further values
unfoldable pub digest_behind : List ℕ → List Value → List ℕ
digest_behind digest [] = digest
digest_behind digest (value ∷ values) = digest_behind (digest_with digest value) values

abbrev pub digest_of : List Value → List ℕ
digest_of values = digest_behind no_digest values

-- that of so many of them
abbrev pub digest_at : List Value → ℕ → List ℕ
digest_at values count = digest_of (take count values)

-- the last multiple of 64
abbrev pub block_at : ℕ → ℕ
block_at count = count / 64 * 64

-- of so many values the digests at multiples of 64 are kept, and the last 64
unfoldable pub is_kept : ℕ → ℕ → Bool
is_kept count slot = nat_le slot count && (nat_lt (count - slot) 64 || (slot % 64 == 0))

-- of how many values it has the digest
abbrev pub count_of : Chain → ℕ
count_of chain = chain.count

abbrev pub tip_of : Chain → Tip
tip_of chain = record { count = chain.count; digest = chain.digest; block_digest = chain.block_digest }

-- writes at a place, or behind the end where there is no such place
abbrev pub put_at : List (List ℕ) → ℕ → List ℕ → List (List ℕ)
put_at list place digest = if nat_lt place (length list) then slice_set list place digest else list ++ digest ∷ []

-- Of the first so many of these values: their digest, that of the last multiple of 64 of them, the
-- last 64, which go round, and those at multiples of 64.
pub record IsKept (values : List Value) (count : ℕ) (digest block : List ℕ) (recent blocks : List (List ℕ)) : Type 0 where
  pub few : count ≤ length values
  pub is_digest : digest ≡ digest_at values count
  pub is_block : block ≡ digest_at values (block_at count)
  pub last : (slot : ℕ) → slot < count → count ≤ slot + 64 → slice_get recent (slot % 64) ≡ Some (digest_at values (slot + 1))
  pub multiples : (place : ℕ) → place < count / 64 → slice_get blocks place ≡ Some (digest_at values (place * 64 + 64))
  pub room : (64 ≤ length recent) ⊎ (count ≤ length recent)
  pub more_room : count / 64 ≤ length blocks

abbrev pub IsChainOf : List Value → Chain → Type 0
IsChainOf values chain = IsKept values chain.count chain.digest chain.block_digest chain.recent.items chain.blocks.items
