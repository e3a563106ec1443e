-- For `wholes_may_be_written`: what is asked of blocks that are written where the whole is small. Nothing is asked of their lengths, nor
-- of how many operands a record has.
use Rattle.std.specs.Prelude.{◌≡◌, ℕ, zero, suc, ◌+◌, ◌*◌, ◌<◌, ◌≤◌, ◌^◌, ◌==◌, ◌⊎◌, false, List, [], ◌∷◌, length, ⊤}
use Rattle.std.specs.List.{AllByRecursion}
use Rattle.bit_stream.specs.declared.abbreviation.TheConstants.{WIDEST_CHUNK}
use Rattle.bit_stream.specs.declared.abbreviation.AbbrevOp.{AbbrevOp}
use Rattle.bit_stream.specs.declared.abbreviation.AbbrevOp.TheVariants.{Fixed, Vbr, Array}
use Rattle.bit_stream.specs.declared.item.TheConstants.{ID_LIMIT, WORDS_LIMIT}
use Rattle.bit_tree.specs.Written.{Written, no_more, a_block, a_definition, a_record, a_short_record}

-- numbers of 64 bits, unless they are more than 64 bits count
abbrev pub AreSmall : List ℕ → Type 0
AreSmall ns = length ns < 2 ^ 64 → AllByRecursion (λ n. n < 2 ^ 64) ns

-- a record
pub record MayRecord (code : ℕ) (ns : List ℕ) : Type 0 where
  pub code_small : code < ID_LIMIT
  pub numbers : AreSmall ns

-- a block that is no BLOCKINFO
pub record MayBlock (id width : ℕ) : Type 0 where
  pub id_small : id < ID_LIMIT
  pub ordinary : (id == 0) ≡ false
  pub low : 2 ≤ width
  pub high : width ≤ WIDEST_CHUNK

-- blocks and records without abbreviations, where blocks nest at most so deep
unfoldable pub IsPlain : ℕ → Written → Type 0
IsPlain room no_more = ⊤
IsPlain zero (a_block id width inside behind) = ⊥
IsPlain (suc room) (a_block id width inside behind) = MayBlock id width × IsPlain room inside × IsPlain (suc room) behind
IsPlain room (a_definition ops behind) = ⊥
IsPlain room (a_record code ns behind) = MayRecord code ns × IsPlain room behind
IsPlain room (a_short_record id code ns behind) = ⊥

-- the abbreviation of bytes behind a code
abbrev pub of_bytes : List AbbrevOp
of_bytes = Vbr 6 ∷ Array ∷ Fixed 8 ∷ []

-- a block of one record of bytes, by that abbreviation
pub record IsOfBytes (width : ℕ) (inside : Written) : Type 0 where
  pub bytes : List ℕ
  pub is : inside ≡ a_definition of_bytes (a_short_record 4 1 bytes no_more)
  pub small : AllByRecursion (λ n. n < 256) bytes
  pub wide : 3 ≤ width

-- blocks, each of bytes or without abbreviations
unfoldable pub IsWhole : Written → Type 0
IsWhole no_more = ⊤
IsWhole (a_block id width inside behind) = MayBlock id width × (IsOfBytes width inside ⊎ IsPlain 15 inside) × IsWhole behind
IsWhole (a_definition ops behind) = ⊥
IsWhole (a_record code ns behind) = ⊥
IsWhole (a_short_record id code ns behind) = ⊥

-- each block of bytes has fewer of them than WORDS_LIMIT words of 32 bits have bits
unfoldable pub AreShort : Written → Type 0
AreShort no_more = ⊤
AreShort (a_block id width inside behind) = ((block : IsOfBytes width inside) → length block.bytes < 32 * WORDS_LIMIT) × AreShort behind
AreShort (a_definition ops behind) = ⊤
AreShort (a_record code ns behind) = ⊤
AreShort (a_short_record id code ns behind) = ⊤

-- how many records are written without an abbreviation, and how many operands they have
unfoldable pub weight : Written → ℕ
weight no_more = 0
weight (a_block id width inside behind) = weight inside + weight behind
weight (a_definition ops behind) = weight behind
weight (a_record code ns behind) = suc (length ns) + weight behind
weight (a_short_record id code ns behind) = weight behind
