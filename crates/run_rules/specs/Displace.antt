-- For `equal_look_ups_give_equal_runs`: where an address is moved to (LangRef, "getelementptr Instruction").
use Rattle.std.specs.Prelude.{ℕ, ℤ, pos, ◌+ℤ◌, ◌*ℤ◌, Bool, false, ◌||◌, int_lt, List, [], ◌∷◌, Option, Some, None, unwrap_or, if◌then◌else◌}
use Rattle.ir_eval.specs.Value.{signed, reduced}
use Rattle.ir_eval.specs.declared.value.Pointer.{Pointer}
use Rattle.ir_eval.specs.declared.value.Scalar.{Scalar}
use Rattle.ir_eval.specs.declared.value.Scalar.TheVariants.{Int, Ptr, Poison}
use Rattle.std.specs.Option.{option_map_or}
use Rattle.type_table.specs.Shape.{Shape, int_leaf, ptr_leaf, void_leaf, opaque_leaf, array_of, struct_of}
use Rattle.type_table.specs.Layout.{size, field_offset}
use Rattle.run_rules.specs.Action.{Origin, Held, Known, Term}
use Rattle.run_rules.specs.Leaves.{element}

-- the leaf that is known
abbrev pub known : Origin → Scalar
known (Held place) = Poison
known (Known leaf) = leaf

-- the sum of two whole numbers, where both are there
abbrev pub sum_of : Option ℤ → Option ℤ → Option ℤ
sum_of (Some a) (Some b) = Some (a +ℤ b)
sum_of (Some a) None = None
sum_of None b = None

-- an index cut or extended with its sign to 64 bits
abbrev pub index_of : ℕ → ℕ → ℤ
index_of width number = signed 64 (reduced 64 (signed width number))

-- how far so many elements of a size reach; there is no telling where the index is poison
abbrev pub reach : Scalar → ℕ → ℕ → Option ℤ
reach (Int number) width size = Some (index_of width number *ℤ pos size)
reach (Ptr p) width size = None
reach Poison width size = None

-- a whole number lies before the start or after the end
abbrev pub is_outside : ℤ → ℕ × ℕ → Bool
is_outside at bounds = int_lt at (pos bounds.0) || int_lt (pos bounds.1) at

-- the address or the exact sum lies outside a block of these bounds. Where there are none, nothing is checked
abbrev pub leaves_block : Pointer → ℤ → Option (ℕ × ℕ) → Bool
leaves_block p exact bounds = option_map_or (λ b. is_outside (pos p.address) b || is_outside exact b) bounds false

-- the address modulo 2^64; the block stays
abbrev pub moved_to : Pointer → ℤ → Pointer
moved_to p exact = record p { address = reduced 64 exact }

-- a pointer moved by so many bytes; `bounds` are those of its live block, where that is to be checked
abbrev pub displaced_by : Pointer → ℤ → Option (ℕ × ℕ) → Scalar
displaced_by p distance bounds =
    if leaves_block p (pos p.address +ℤ distance) bounds then Poison else Ptr (moved_to p (pos p.address +ℤ distance))

-- the same where base and indices may be poison, and `look` gives the bounds
abbrev pub displaced : (Pointer → Option (ℕ × ℕ)) → Bool → Scalar → Option ℤ → Scalar
displaced look inbounds (Ptr p) (Some distance) = displaced_by p distance (if inbounds then look p else None)
displaced look inbounds (Ptr p) None = Poison
displaced look inbounds (Int n) distance = Poison
displaced look inbounds Poison distance = Poison

-- how far elements reach together, where `leaf` gives the indices; there is no telling where one is poison
abbrev pub reach_of : (Origin → Scalar) → List Term → Option ℤ
reach_of leaf [] = Some (pos 0)
reach_of leaf (t ∷ ts) = sum_of (reach (leaf t.index) t.width t.size) (reach_of leaf ts)

-- an index as it is written
pub record TermIndex : Type 0 where
  pub origin : Origin
  pub width : ℕ

-- the number of an integer
abbrev pub number_of : Scalar → ℕ
number_of (Int n) = n
number_of (Ptr p) = 0
number_of Poison = 0

-- which element or field an index names, where it is known
abbrev pub number_in : TermIndex → ℕ
number_in i = number_of (known i.origin)

-- an index into an array counts elements. A field is so many bytes away
abbrev pub inner_term : Shape → TermIndex → Term
inner_term (array_of n s) i = record { index = i.origin; width = i.width; size = size s }
inner_term (struct_of label packed ss) i = record { index = Known (Int (unwrap_or (field_offset packed 0 ss (number_in i)) 0)); width = 64; size = 1 }
inner_term (int_leaf w) i = record { index = Known (Int 0); width = 64; size = 0 }
inner_term ptr_leaf i = record { index = Known (Int 0); width = 64; size = 0 }
inner_term void_leaf i = record { index = Known (Int 0); width = 64; size = 0 }
inner_term (opaque_leaf label) i = record { index = Known (Int 0); width = 64; size = 0 }

-- each index goes into the part that the one before it names
abbrev pub inner_terms : Shape → List TermIndex → List Term
inner_terms s [] = []
inner_terms s (i ∷ is) = inner_term s i ∷ inner_terms (element s (number_in i)) is

-- how far the indices lead into a source of that shape: the first one counts whole values
abbrev pub terms_of : Shape → List TermIndex → List Term
terms_of s [] = []
terms_of s (i ∷ is) = record { index = i.origin; width = i.width; size = size s } ∷ inner_terms s is
