-- How blocks are closed piece by piece: what is left of so many blocks that are open.
use Rattle.std.proofs.Common.{◌≡◌, ◌<◌, ◌+◌, ◌-◌, ℕ, Bool, List, [], ◌∷◌, ◌++◌, length, refl, sym, ◌∙◌, arith}
use Rattle.std.proofs.lemmas.List.{append_assoc}
use Rattle.bit_tree.specs.Pieces.{Piece, begun, ended, defines, holds, flat}
use Rattle.bit_stream.specs.Abbreviation.{AdmittedAbbreviation}
use Rattle.bit_tree.specs.Stream.{StreamTree, nothing, block, definition, values}

-- the pieces of these trees, each with the end of its block, and then others
abbrev pub closing : List StreamTree → List Piece → List Piece
closing [] others = others
closing (t ∷ ts) others = flat t ++ ended ∷ closing ts others

-- so many blocks are to be closed in front of these pieces
pub record IsClosing (unclosed : ℕ) (left others : List Piece) : Type 0 where
  pub trees : List StreamTree
  pub count : length trees ≡ unclosed
  pub left_is : left ≡ closing trees others

-- inside a block one is to be closed
pub inside_one : (t : StreamTree) (left others : List Piece) → left ≡ flat t ++ ended ∷ others → IsClosing 1 left others
inside_one t left others h = record { trees = t ∷ []; count = refl; left_is = h }

-- a block begins
record Opens (ts : List StreamTree) (rest others : List Piece) : Type 0 where
  one : StreamTree
  other : StreamTree
  rest_is : rest ≡ closing (one ∷ other ∷ ts) others

opens : (t : StreamTree) (ts : List StreamTree) (rest others : List Piece) (id width words : ℕ) → begun id width words ∷ rest ≡ closing (t ∷ ts) others → Opens ts rest others
unfolding flat
opens nothing ts rest others id width words h = absurd (cc)
opens (block i w n inside behind) ts rest others id width words h =
    let tail : rest ≡ (flat inside ++ ended ∷ flat behind) ++ ended ∷ closing ts others = cc in
    record { one = inside; other = behind; rest_is = tail ∙ append_assoc (flat inside) (ended ∷ flat behind) (ended ∷ closing ts others) }
opens (definition i d behind) ts rest others id width words h = absurd (cc)
opens (values i code operands has_blob blob behind) ts rest others id width words h = absurd (cc)

-- a block ends
ends : (t : StreamTree) (ts : List StreamTree) (rest others : List Piece) → ended ∷ rest ≡ closing (t ∷ ts) others → rest ≡ closing ts others
unfolding flat
ends nothing ts rest others h = cc
ends (block i w n inside behind) ts rest others h = absurd (cc)
ends (definition i d behind) ts rest others h = absurd (cc)
ends (values i code operands has_blob blob behind) ts rest others h = absurd (cc)

-- a definition or a record stands there
record Stays (ts : List StreamTree) (rest others : List Piece) : Type 0 where
  one : StreamTree
  rest_is : rest ≡ closing (one ∷ ts) others

holds_one : (t : StreamTree) (ts : List StreamTree) (rest others : List Piece) (id code : ℕ) (operands : List ℕ) (has_blob : Bool) (blob : List ℕ)
    → holds id code operands has_blob blob ∷ rest ≡ closing (t ∷ ts) others → Stays ts rest others
unfolding flat
holds_one nothing ts rest others id code operands has_blob blob h = absurd (cc)
holds_one (block i w n inside behind) ts rest others id code operands has_blob blob h = absurd (cc)
holds_one (definition i d behind) ts rest others id code operands has_blob blob h = absurd (cc)
holds_one (values i c o hb b behind) ts rest others id code operands has_blob blob h = record { one = behind; rest_is = cc }

defines_one : (t : StreamTree) (ts : List StreamTree) (rest others : List Piece) (id : ℕ) (d : AdmittedAbbreviation) → defines id d ∷ rest ≡ closing (t ∷ ts) others → Stays ts rest others
unfolding flat
defines_one nothing ts rest others id d h = absurd (cc)
defines_one (block i w n inside behind) ts rest others id d h = absurd (cc)
defines_one (definition i e behind) ts rest others id d h = record { one = behind; rest_is = cc }
defines_one (values i c o hb b behind) ts rest others id d h = absurd (cc)

never_over : (t : StreamTree) (ts : List StreamTree) (others : List Piece) → [] ≡ closing (t ∷ ts) others → ⊥
unfolding flat
never_over nothing ts others h = cc
never_over (block i w n inside behind) ts others h = cc
never_over (definition i d behind) ts others h = cc
never_over (values i c o hb b behind) ts others h = cc

-- the steps of a walker in front of blocks that are to be closed

pub after_begun : (n : ℕ) (id width words : ℕ) (left rest others : List Piece) → IsClosing n left others → 0 < n → left ≡ begun id width words ∷ rest → IsClosing (n + 1) rest others
after_begun n id width words left rest others h more is = by_trees h.trees h.count h.left_is
  where
    by_trees : (ts : List StreamTree) → length ts ≡ n → left ≡ closing ts others → IsClosing (n + 1) rest others
    by_trees [] count at = absurd (omega (arith, count))
    by_trees (t ∷ ts) count at = let found = opens t ts rest others id width words (sym is ∙ at) in
        record { trees = found.one ∷ found.other ∷ ts; count = omega (arith, count); left_is = found.rest_is }

pub after_ended : (n : ℕ) (left rest others : List Piece) → IsClosing n left others → 0 < n → left ≡ ended ∷ rest → IsClosing (n - 1) rest others
after_ended n left rest others h more is = by_trees h.trees h.count h.left_is
  where
    by_trees : (ts : List StreamTree) → length ts ≡ n → left ≡ closing ts others → IsClosing (n - 1) rest others
    by_trees [] count at = absurd (omega (arith, count))
    by_trees (t ∷ ts) count at = record { trees = ts; count = omega (arith, count); left_is = ends t ts rest others (sym is ∙ at) }

stays : (n : ℕ) (t : StreamTree) (ts : List StreamTree) (rest others : List Piece) → length (t ∷ ts) ≡ n → Stays ts rest others → IsClosing n rest others
stays n t ts rest others count found = record { trees = found.one ∷ ts; count = count; left_is = found.rest_is }

pub after_held : (n : ℕ) (id code : ℕ) (operands : List ℕ) (has_blob : Bool) (blob : List ℕ) (left rest others : List Piece) → IsClosing n left others → 0 < n → left ≡ holds id code operands has_blob blob ∷ rest → IsClosing n rest others
after_held n id code operands has_blob blob left rest others h more is = by_trees h.trees h.count h.left_is
  where
    by_trees : (ts : List StreamTree) → length ts ≡ n → left ≡ closing ts others → IsClosing n rest others
    by_trees [] count at = absurd (omega (arith, count))
    by_trees (t ∷ ts) count at = stays n t ts rest others count (holds_one t ts rest others id code operands has_blob blob (sym is ∙ at))

pub after_defined : (n : ℕ) (id : ℕ) (d : AdmittedAbbreviation) (left rest others : List Piece) → IsClosing n left others → 0 < n → left ≡ defines id d ∷ rest → IsClosing n rest others
after_defined n id d left rest others h more is = by_trees h.trees h.count h.left_is
  where
    by_trees : (ts : List StreamTree) → length ts ≡ n → left ≡ closing ts others → IsClosing n rest others
    by_trees [] count at = absurd (omega (arith, count))
    by_trees (t ∷ ts) count at = stays n t ts rest others count (defines_one t ts rest others id d (sym is ∙ at))

pub not_over : (n : ℕ) (left others : List Piece) → IsClosing n left others → 0 < n → left ≡ [] → ⊥
not_over n left others h more is = by_trees h.trees h.count h.left_is
  where
    by_trees : (ts : List StreamTree) → length ts ≡ n → left ≡ closing ts others → ⊥
    by_trees [] count at = omega (arith, count)
    by_trees (t ∷ ts) count at = never_over t ts others (sym is ∙ at)

pub all_closed : (n : ℕ) (left others : List Piece) → IsClosing n left others → n ≡ 0 → left ≡ others
all_closed n left others h none = by_trees h.trees h.count h.left_is
  where
    by_trees : (ts : List StreamTree) → length ts ≡ n → left ≡ closing ts others → left ≡ others
    by_trees [] count at = at
    by_trees (t ∷ ts) count at = absurd (omega (arith, count))
