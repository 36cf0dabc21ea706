-- What waits to go out to a member (own).
use Rattle.std.specs.Prelude.{ℕ, ◌≡◌, ◌≢◌, ◌+◌, ◌-◌, ◌==◌, ◌&&◌, ◌||◌, ◌⊎◌, ◌++◌, Bool, true, false, List, [], ◌∷◌, drop, length, min, nat_le, nat_lt, not, option_map, slice_get, unwrap_or, if◌then◌else◌}
use Rattle.press_batch.specs.Spelling.{WrittenBatch, fits, head_alone, with_message}
use Rattle.press_batch.specs.declared.head.Head.{Head}
use Rattle.press_wire.specs.Spelling.{is_too_long_message}
use Rattle.press_wire.specs.declared.message.Body.{Body}
use Rattle.press_wire.specs.declared.message.Body.TheVariants.{Prepare, Promise, Nack, Accept, Accepted, Query}
use Rattle.press_cluster.specs.declared.lanes.Lane.{Lane}
use Rattle.press_cluster.specs.declared.lanes.Lanes.{Lanes}
use Rattle.press_cluster.specs.declared.lanes.Waiting.{Waiting}

-- a question for a vote
abbrev pub is_query : Body → Bool
is_query (Prepare round) = false
is_query (Promise ballot votes) = false
is_query (Nack refused promised) = false
is_query (Accept round value) = false
is_query (Accepted vote) = false
is_query Query = true

-- no request is on its way, or fewer than 8 are and the last has been for 20 milliseconds
abbrev pub is_free : ℕ → Lane → Bool
is_free now lane = (lane.«open» == 0) || (nat_lt lane.«open» 8 && nat_le 20 (now - lane.since))

-- another may go out, and something waits
abbrev pub is_ready : ℕ → Lane → Bool
is_ready now lane = is_free now lane && (nat_lt 0 lane.looks || nat_lt 0 (length lane.waiting.items))

-- as many requests are on their way, since the same time, and as many looks wait
abbrev pub HasSameWay : Lane → Lane → Type 0
HasSameWay new old = (new.«open» ≡ old.«open») × (new.since ≡ old.since) × (new.looks ≡ old.looks)

-- so many requests are on their way to the member at a place
abbrev pub open_at : Lanes → ℕ → ℕ
open_at lanes place = unwrap_or (option_map (λ lane. lane.«open») (slice_get lanes.all.items place)) 0

-- as many are on their way to each member
abbrev pub HasSameWays : Lanes → Lanes → Type 0
HasSameWays new old = (place : ℕ) → open_at new place ≡ open_at old place

-- one has ended that was on its way to the member at a place
abbrev pub HasEnded : ℕ → Lanes → Lanes → Type 0
HasEnded place new old = (other : ℕ) → open_at new other ≡ (if other == place then open_at old other - 1 else open_at old other)

-- how many of these are questions
abbrev pub question_count : List Waiting → ℕ
question_count [] = 0
question_count (first ∷ rest) = (if is_query first.message.body then 1 else 0) + question_count rest

-- looks and questions whose ends are to be told: those that wait, and those that were lost before
-- they went out
abbrev pub owed_count : Lane → ℕ
owed_count lane = question_count lane.waiting.items + lane.looks + lane.lost

abbrev pub owed_at : Lanes → ℕ → ℕ
owed_at lanes place = unwrap_or (option_map owed_count (slice_get lanes.all.items place)) 0

-- a number, as far as 32 bits count
abbrev pub u32_count : ℕ → ℕ
u32_count n = min n 4294967295

-- so many of those that were owed went out, and the others are owed still
abbrev pub GoOut : ℕ → ℕ → ℕ → Type 0
GoOut asked before after = (count : ℕ) × (before ≡ count + after) × (asked ≡ u32_count count)

-- none is forgotten, as far as they are counted
abbrev pub AreKept : ℕ → ℕ → Type 0
AreKept before after = u32_count after ≡ u32_count before

-- the messages that wait for the member at a place
abbrev pub waiting_at : Lanes → ℕ → List Waiting
waiting_at lanes place = unwrap_or (option_map (λ lane. lane.waiting.items) (slice_get lanes.all.items place)) []

-- the same messages wait for each member
abbrev pub HasSameWaiting : Lanes → Lanes → Type 0
HasSameWaiting new old = (place : ℕ) → waiting_at new place ≡ waiting_at old place

-- the same messages wait for each member but the one at a place
abbrev pub HasSameElsewhere : ℕ → Lanes → Lanes → Type 0
HasSameElsewhere place new old = (other : ℕ) → other ≢ place → waiting_at new other ≡ waiting_at old other

-- a batch with one message more; the same where it has no room for it, or none has
abbrev pub with_waiting : Waiting → WrittenBatch → WrittenBatch
with_waiting waiting batch =
    if not (is_too_long_message waiting.message) && fits (length batch.bytes) waiting.message then with_message waiting.message batch else batch

-- the oldest of those that waited has gone into a batch; one that an empty batch doesn't take is lost
abbrev pub GoesIn : List Waiting → List Waiting → WrittenBatch → WrittenBatch → Type 0
GoesIn before after old new = (first : Waiting) × (before ≡ first ∷ after) × (new ≡ with_waiting first old) × ((new.count ≡ old.count + 1) ⊎ (old.count ≡ 0))

-- some have gone into a batch, the oldest first, each as one does
pub data GoIn : List Waiting → List Waiting → WrittenBatch → WrittenBatch → Type 0 where
  none_goes : (waiting : List Waiting) (batch : WrittenBatch) → GoIn waiting waiting batch batch
  one_goes : (before between after : List Waiting) (old next new : WrittenBatch) → GoIn before between old next → GoesIn between after next new → GoIn before after old new

-- what waited, as far as it went, stands behind a head of a request or reply, in a batch with that
-- head
abbrev pub Carries : List Waiting → List Waiting → Head → List ℕ → Type 0
Carries before after head bytes =
    (front : List ℕ) × (batch : WrittenBatch) × GoIn before after (head_alone head) batch × (bytes ≡ front ++ batch.bytes)

-- the oldest makes room where 3,333 wait
abbrev pub with_room : List Waiting → List Waiting
with_room waiting = if nat_le 3333 (length waiting) then drop 1 waiting else waiting

-- one waits behind the others; without memory it is lost
abbrev pub IsPut : Waiting → List Waiting → List Waiting → Type 0
IsPut last old new = (new ≡ with_room old ++ last ∷ []) ⊎ (new ≡ with_room old)

-- the oldest is a question
abbrev pub asks_first : List Waiting → Bool
asks_first [] = false
asks_first (first ∷ rest) = is_query first.message.body

-- those behind the oldest ones that have waited for more than two seconds
abbrev pub fresh_of : ℕ → List Waiting → List Waiting
fresh_of now [] = []
fresh_of now (first ∷ rest) = if nat_lt 2000 (now - first.since) then fresh_of now rest else first ∷ rest

-- the oldest has waited for more than two seconds
abbrev pub is_stale : ℕ → List Waiting → Bool
is_stale now [] = false
is_stale now (first ∷ rest) = nat_lt 2000 (now - first.since)
