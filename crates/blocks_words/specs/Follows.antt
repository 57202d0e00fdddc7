-- A draft of a block: which words it has, words written to it after those before them, and what it is finished to. Assumes nothing.
use Rattle.std.specs.Prelude.{◌≡◌, ℕ, suc, ◌+◌, ◌-◌, ◌%◌, List, ◌++◌, length, sum, replicate}
use Rattle.blocks_words.specs.declared.drafts.Draft.{Draft}
use Rattle.blocks_words.specs.Words.{check_place, word_base, bytes_of, block_of}

-- the words so far, and zeros to word 127
abbrev pub padded : List ℕ → List ℕ
padded ws = ws ++ replicate (suc check_place - length ws) 0

-- a draft with the words so far, and their check
pub record FollowedBy (ws : List ℕ) (draft : Draft) : Type 0 where
  pub bytes : draft.block ≡ bytes_of (padded ws)
  pub check : draft.check ≡ sum ws % word_base

-- words were written from a place on: they follow any that stood before it
pub record Follow (place : ℕ) (draft : Draft) (words : List ℕ) (draft' : Draft) : Type 0 where
  pub after : (ws : List ℕ) → length ws ≡ place → FollowedBy ws draft → FollowedBy (ws ++ words) draft'

-- the check of a draft's words stored last: what is not written is filler, and zero
pub record Finished (draft : Draft) (block : List ℕ) : Type 0 where
  pub whole : (ws : List ℕ) (n : ℕ) → length ws + n ≡ check_place → FollowedBy ws draft → block ≡ block_of (ws ++ replicate n 0)
