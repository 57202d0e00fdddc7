-- The header made of slots, current and oldest: its words are written one after another before filler that stands; where they are
-- lawful they fit, come back from their places, oldest is read as itself, and none of them is wrong. Assumes nothing.
use Rattle.std.specs.Prelude.{◌≡◌, true, false, not, ◌||◌, List, [], ◌∷◌, pos, nat_abs, ◌-ℤ◌}
use Rattle.std.proofs.Math.Path.{refl}
use Rattle.std.proofs.Common.{ap, ◌∙◌, int_eq, SFits}
use Rattle.std.proofs.lemmas.Bool.Decides.{nat_tests}
use Prim.Native.Nat.{ℕ, zero, suc, ◌≤◌, ◌<◌}
use native.Mathlib.Omega.{arith}
use Rattle.std.proofs.Math.ListN.{replicate}
use Rattle.std.specs.Int.{w64}
use borrow.Author.Tests.{leb-true, le-leb, eq-eqb, ne_eqb}
use Rattle.laws.specs.TestLaws.{by_order, not_no, all_no, any-all, none-at}
use Rattle.laws.specs.Tests.{any}
use Rattle.laws.specs.OrderLaws.{from_to_lem, previous}
use Rattle.laws.specs.Order.{from_to}
use Rattle.laws.specs.DigitLaws.{EachBelow}
use Rattle.versions.specs.Record.{largest_version}
use Rattle.table.specs.Slots.{most_slots}
use Rattle.blocks_words.specs.Words.{number_place, word_base, block_of, word_at, nonzero}
use Rattle.blocks_words.specs.declared.drafts.Draft.{Draft}
use Rattle.blocks_words.specs.Groups.{zeros-below}
use Rattle.blocks_words.specs.WordLaws.{BlockWords, block_word, filler_zero}
use Rattle.blocks_words.specs.Follows.{FollowedBy, Follow, Finished}
use Rattle.blocks_words.specs.FollowLaws.{filler_stands}
use Rattle.blocks_headers.specs.HeaderFields.{slots_place, current_place, oldest_place, header_filler_place, header_filler_words, header_words, oldest_allowed, oldest_of, header_wrong}

-- ---- the number before that of a word fits a signed word, also where it is −1
pub previous_word_fits : (n : ℕ) → n < word_base → SFits w64 (pos n -ℤ pos 1)
previous_word_fits zero h = record { sfits = omega arith }
previous_word_fits (suc n) h = rw (previous n) (record { sfits = omega arith })

-- ---- word 3 of a saved header: it is current or current − 1, which is allowed, and it is no 0, so that it is read as itself
oldest_allowed_lem : (current oldest : ℕ) → 1 ≤ oldest → oldest ≤ current → current ≤ suc oldest → oldest_allowed (pos current) (pos oldest) ≡ true
oldest_allowed_lem zero oldest first below near = absurd (omega arith)
oldest_allowed_lem (suc current) oldest first below near =
    by_order oldest (suc current)
    (λ l. any-all _ ∙ ap not (all_no _ 1 (rw (previous current) (ap not (eq-eqb oldest current (omega arith))))))
    (λ g. any-all _ ∙ ap not (all_no _ 2 (ap not (eq-eqb oldest (suc current) (omega arith)))))

-- and as the code asks it: one of three
pub oldest_among : (current oldest : ℕ) → (int_eq (pos 0) (pos oldest) || (int_eq (pos current -ℤ pos 1) (pos oldest) || (int_eq (pos current) (pos oldest) || false)))
    ≡ oldest_allowed (pos current) (pos oldest)
unfolding any
oldest_among zero oldest = grind (arith, nat_tests)
oldest_among (suc current) oldest = rw (previous current) (grind (arith, nat_tests))

pub oldest_itself : (current oldest : ℕ) → 1 ≤ oldest → oldest_of (pos current) (pos oldest) ≡ pos oldest
unfolding oldest_of
oldest_itself current oldest first = rw (ne_eqb oldest 0 (omega arith))

-- ---- a header whose words are allowed is not refused 16
header_allowed : (block : List ℕ) → word_at block number_place ≡ 0 → from_to (pos 1) (pos most_slots) (pos (word_at block slots_place)) ≡ true
    → from_to (pos 1) largest_version (pos (word_at block current_place)) ≡ true
    → oldest_allowed (pos (word_at block current_place)) (pos (word_at block oldest_place)) ≡ true
    → nonzero block header_filler_place header_filler_words ≡ false → header_wrong block ≡ false
unfolding header_wrong any
header_allowed block number slots current oldest filler = rw (eq-eqb _ _ number, slots, current, oldest, filler)

-- and one that is not refused 16 has a current from 1 up
pub current_low : (block : List ℕ) → header_wrong block ≡ false → 1 ≤ word_at block current_place
unfolding header_wrong
current_low block right = leb-true 1 _ (from_to_lem (pos 1) largest_version (pos (word_at block current_place)) (not_no (none-at _ 2 right))).low

-- what a saved header holds: slots of a table, a version, and that or the one before as the oldest that is open
pub record Lawful (slots current oldest : ℕ) : Type 0 where
  pub some : 1 ≤ slots
  pub few : slots ≤ most_slots
  pub first : 1 ≤ oldest
  pub below : oldest ≤ current
  pub near : current ≤ suc oldest
  pub last : current ≤ nat_abs largest_version

module _ (slots current oldest : ℕ) where
  -- it is what a draft is finished to in which the three words were written; its number and its filler stand already
  pub header_written : {draft with_slots with_current with_oldest : Draft} {block : List ℕ} → FollowedBy [] draft
      → Follow slots_place draft (slots ∷ []) with_slots → Follow current_place with_slots (current ∷ []) with_current
      → Follow oldest_place with_current (oldest ∷ []) with_oldest → Finished with_oldest block → block ≡ block_of (header_words slots current oldest)
  unfolding header_words
  header_written none first second third done =
      done.whole (0 ∷ slots ∷ current ∷ oldest ∷ []) header_filler_words refl
      (third.after _ refl (second.after _ refl (first.after _ refl (filler_stands [] 1 (omega arith) none))))

  module _ (lawful : Lawful slots current oldest) where
    -- its words are 127, each below 2^32
    pub header_words_lem : BlockWords (header_words slots current oldest)
    unfolding header_words
    header_words_lem = record { size = refl; below = below }
      where
        below : EachBelow word_base (0 ∷ slots ∷ current ∷ oldest ∷ replicate header_filler_words 0)
        below zero = omega arith
        below (suc zero) = omega (arith, lawful.few)
        below (suc (suc zero)) = omega (arith, lawful.last)
        below (suc (suc (suc zero))) = omega (arith, lawful.below, lawful.last)
        below (suc (suc (suc (suc i)))) = zeros-below word_base (omega arith) header_filler_words i

    -- slots, current and oldest are read off their places
    pub slots-back : word_at (block_of (header_words slots current oldest)) slots_place ≡ slots
    unfolding header_words
    slots-back = block_word _ header_words_lem slots_place (omega arith)

    pub current-back : word_at (block_of (header_words slots current oldest)) current_place ≡ current
    unfolding header_words
    current-back = block_word _ header_words_lem current_place (omega arith)

    pub oldest_back : word_at (block_of (header_words slots current oldest)) oldest_place ≡ oldest
    unfolding header_words
    oldest_back = block_word _ header_words_lem oldest_place (omega arith)

    -- and no word is wrong
    pub header_right : header_wrong (block_of (header_words slots current oldest)) ≡ false
    unfolding header_words
    header_right =
        header_allowed _ (block_word _ header_words_lem number_place (omega arith))
        (rw (slots-back, le-leb 1 slots lawful.some, le-leb slots most_slots lawful.few))
        (rw (current-back, le-leb 1 current (omega (arith, lawful.first, lawful.below)), le-leb current (nat_abs largest_version) lawful.last))
        (rw (current-back, oldest_back) (oldest_allowed_lem current oldest lawful.first lawful.below lawful.near))
        (filler_zero _ header_words_lem (0 ∷ slots ∷ current ∷ oldest ∷ []) header_filler_words refl)
