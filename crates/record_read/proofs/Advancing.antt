-- What is given in front of the pieces of a tree.
use Rattle.std.proofs.Common.{◌≡◌, ℕ, suc, Bool, true, false, nat_eq, List, [], ◌∷◌, ◌++◌, None, refl, sym, ap, subst, ◌∙◌}
use Rattle.std.proofs.lemmas.List.{append_assoc}
use Rattle.bit_stream.specs.Abbreviation.{AdmittedAbbreviation}
use Rattle.bit_tree.specs.Pieces.{Piece, begun, ended, defines, holds, flat}
use Rattle.bit_tree.specs.Stream.{StreamTree, nothing, block, definition, values}
use Rattle.record_table.specs.Walk.{going}
use Rattle.record_table.specs.Faults.{Records, records}
use Rattle.record_read.specs.declared.entry.NextEntry.TheVariants.{Block, Record, End}
use Rattle.record_read.specs.Reader.{Reader}
use Rattle.record_read.specs.Entries.{IsBefore, IsEnd, IsOver, Gives}

-- an end is no other piece
no_begun : (others rest : List Piece) (id width words : ℕ) → IsEnd others → begun id width words ∷ rest ≡ others → ⊥
no_begun [] rest id width words h is = cc
no_begun (p ∷ ps) rest id width words h is = cc

no_holds : (others rest : List Piece) (id code : ℕ) (operands : List ℕ) (has_blob : Bool) (blob : List ℕ) → IsEnd others → holds id code operands has_blob blob ∷ rest ≡ others → ⊥
no_holds [] rest id code operands has_blob blob h is = cc
no_holds (p ∷ ps) rest id code operands has_blob blob h is = cc

no_defines : (others rest : List Piece) (id : ℕ) (d : AdmittedAbbreviation) → IsEnd others → defines id d ∷ rest ≡ others → ⊥
no_defines [] rest id d h is = cc
no_defines (p ∷ ps) rest id d h is = cc

-- a block

opened : (inside behind : StreamTree) (left rest others : List Piece) (piece first : Piece) → left ≡ rest → piece ∷ rest ≡ (first ∷ (flat inside ++ ended ∷ flat behind)) ++ others → left ≡ flat inside ++ ended ∷ (flat behind ++ others)
opened inside behind left rest others piece first same h =
    let tail : rest ≡ (flat inside ++ ended ∷ flat behind) ++ others = cc in
    same ∙ (tail ∙ append_assoc (flat inside) (ended ∷ flat behind) others)

block_of : (t : StreamTree) (old new : Reader) (rest others : List Piece) (id width words : ℕ) → IsEnd others → begun id width words ∷ rest ≡ flat t ++ others → nat_eq id 0 ≡ false
    → new.left ≡ rest → new.at ≡ old.at → Gives (records t) old (Block id) new others
unfolding flat
block_of nothing old new rest others id width words end h other left at = absurd (no_begun others rest id width words end h)
block_of (block i w n inside behind) old new rest others id width words end h other left at =
    let same : id ≡ i = cc in
    let is_other : nat_eq i 0 ≡ false = ap (λ k. nat_eq k 0) (sym same) ∙ other in
    rw is_other (
      same,
      at,
      record {
        pieces = flat behind ++ others;
        inside = record { tree = inside; is = refl; left_is = opened inside behind new.left rest others (begun id width words) (begun i w n) left h; ends = refl };
        behind = record { tree = behind; is = refl; left_is = refl; ends = end };
      },
    )
block_of (definition i d behind) old new rest others id width words end h other left at = absurd (cc)
block_of (values i code operands has_blob blob behind) old new rest others id width words end h other left at = absurd (cc)

pub gives_block : (old new : Reader) (now rest : List Piece) (all : Records) (others : List Piece) (id width words : ℕ) → IsBefore now all others → now ≡ begun id width words ∷ rest → nat_eq id 0 ≡ false
    → new.left ≡ rest → new.at ≡ old.at → Gives all old (Block id) new others
gives_block old new now rest all others id width words h is other left at =
    subst (λ a. Gives a old (Block id) new others) (sym h.is) (block_of h.tree old new rest others id width words h.ends (sym is ∙ h.left_is) other left at)

-- a record

record_of : (t : StreamTree) (old new : Reader) (rest others : List Piece) (id code : ℕ) (operands : List ℕ) (has_blob : Bool) (blob : List ℕ) → IsEnd others → holds id code operands has_blob blob ∷ rest ≡ flat t ++ others
    → new.left ≡ rest → new.at ≡ suc old.at → new.walk ≡ going operands None → Gives (records t) old (Record code) new others
unfolding flat
record_of nothing old new rest others id code operands has_blob blob end h left at walk = absurd (no_holds others rest id code operands has_blob blob end h)
record_of (block i w n inside behind) old new rest others id code operands has_blob blob end h left at walk = absurd (cc)
record_of (definition i d behind) old new rest others id code operands has_blob blob end h left at walk = absurd (cc)
record_of (values i c o hb b behind) old new rest others id code operands has_blob blob end h left at walk =
    let same : code ≡ c = cc in
    let these : operands ≡ o = cc in
    let tail : rest ≡ flat behind ++ others = cc in
    (same, at, walk ∙ ap (λ (ns : List ℕ). going ns None) these, record { tree = behind; is = refl; left_is = left ∙ tail; ends = end })

pub gives_record : (old new : Reader) (now rest : List Piece) (all : Records) (others : List Piece) (id code : ℕ) (operands : List ℕ) (has_blob : Bool) (blob : List ℕ) → IsBefore now all others
    → now ≡ holds id code operands has_blob blob ∷ rest → new.left ≡ rest → new.at ≡ suc old.at → new.walk ≡ going operands None → Gives all old (Record code) new others
gives_record old new now rest all others id code operands has_blob blob h is left at walk =
    subst (λ a. Gives a old (Record code) new others) (sym h.is) (record_of h.tree old new rest others id code operands has_blob blob h.ends (sym is ∙ h.left_is) left at walk)

-- the end

over_by : (others rest left : List Piece) → ended ∷ rest ≡ others → left ≡ rest → IsOver others left
over_by [] rest left h is = absurd (cc)
over_by (p ∷ ps) rest left h is = let tail : rest ≡ ps = cc in is ∙ tail

end_of : (t : StreamTree) (old new : Reader) (rest others : List Piece) → ended ∷ rest ≡ flat t ++ others → new.left ≡ rest → new.at ≡ old.at → Gives (records t) old End new others
unfolding flat
end_of nothing old new rest others h left at = (at, over_by others rest new.left h left)
end_of (block i w n inside behind) old new rest others h left at = absurd (cc)
end_of (definition i d behind) old new rest others h left at = absurd (cc)
end_of (values i c o hb b behind) old new rest others h left at = absurd (cc)

pub gives_end : (old new : Reader) (now rest : List Piece) (all : Records) (others : List Piece) → IsBefore now all others → now ≡ ended ∷ rest → new.left ≡ rest → new.at ≡ old.at → Gives all old End new others
gives_end old new now rest all others h is left at =
    subst (λ a. Gives a old End new others) (sym h.is) (end_of h.tree old new rest others (sym is ∙ h.left_is) left at)

whole_by : (others left : List Piece) → [] ≡ others → left ≡ [] → IsOver others left
whole_by [] left h is = is
whole_by (p ∷ ps) left h is = absurd (cc)

whole_of : (t : StreamTree) (old new : Reader) (others : List Piece) → [] ≡ flat t ++ others → new.left ≡ [] → new.at ≡ old.at → Gives (records t) old End new others
unfolding flat
whole_of nothing old new others h left at = (at, whole_by others new.left h left)
whole_of (block i w n inside behind) old new others h left at = absurd (cc)
whole_of (definition i d behind) old new others h left at = absurd (cc)
whole_of (values i c o hb b behind) old new others h left at = absurd (cc)

pub gives_whole : (old new : Reader) (now : List Piece) (all : Records) (others : List Piece) → IsBefore now all others → now ≡ [] → new.left ≡ [] → new.at ≡ old.at → Gives all old End new others
gives_whole old new now all others h is left at =
    subst (λ a. Gives a old End new others) (sym h.is) (whole_of h.tree old new others (sym is ∙ h.left_is) left at)

-- what is passed over

definition_of : (t : StreamTree) (left rest others : List Piece) (id : ℕ) (d : AdmittedAbbreviation) → IsEnd others → defines id d ∷ rest ≡ flat t ++ others → left ≡ rest → IsBefore left (records t) others
unfolding flat
definition_of nothing left rest others id d end h is = absurd (no_defines others rest id d end h)
definition_of (block i w n inside behind) left rest others id d end h is = absurd (cc)
definition_of (definition i e behind) left rest others id d end h is =
    let tail : rest ≡ flat behind ++ others = cc in
    record { tree = behind; is = refl; left_is = is ∙ tail; ends = end }
definition_of (values i c o hb b behind) left rest others id d end h is = absurd (cc)

pub past_definition : (now left rest : List Piece) (all : Records) (others : List Piece) (id : ℕ) (d : AdmittedAbbreviation) → IsBefore now all others → now ≡ defines id d ∷ rest → left ≡ rest → IsBefore left all others
past_definition now left rest all others id d h is left_is =
    subst (λ a. IsBefore left a others) (sym h.is) (definition_of h.tree left rest others id d h.ends (sym is ∙ h.left_is) left_is)

-- a block was passed over from one place to another
abbrev pub Goes : List Piece → List Piece → Type 0
Goes from to = (inside : Records) (others : List Piece) → IsBefore from inside (ended ∷ others) → to ≡ others

info_of : (t : StreamTree) (from to rest others : List Piece) (id width words : ℕ) → IsEnd others → begun id width words ∷ rest ≡ flat t ++ others → nat_eq id 0 ≡ true → from ≡ rest → Goes from to → IsBefore to (records t) others
unfolding flat
info_of nothing from to rest others id width words end h info is goes = absurd (no_begun others rest id width words end h)
info_of (block i w n inside behind) from to rest others id width words end h info is goes =
    let same : id ≡ i = cc in
    let is_info : nat_eq i 0 ≡ true = ap (λ k. nat_eq k 0) (sym same) ∙ info in
    let there : to ≡ flat behind ++ others = goes (records inside) (flat behind ++ others) (record { tree = inside; is = refl; left_is = opened inside behind from rest others (begun id width words) (begun i w n) is h; ends = refl }) in
    rw is_info (record { tree = behind; is = refl; left_is = there; ends = end })
info_of (definition i d behind) from to rest others id width words end h info is goes = absurd (cc)
info_of (values i c o hb b behind) from to rest others id width words end h info is goes = absurd (cc)

pub past_info : (now from to rest : List Piece) (all : Records) (others : List Piece) (id width words : ℕ) → IsBefore now all others → now ≡ begun id width words ∷ rest → nat_eq id 0 ≡ true → from ≡ rest → Goes from to → IsBefore to all others
past_info now from to rest all others id width words h is info from_is goes =
    subst (λ a. IsBefore to a others) (sym h.is) (info_of h.tree from to rest others id width words h.ends (sym is ∙ h.left_is) info from_is goes)
