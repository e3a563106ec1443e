-- For `==` and `hash` of `Labelled`: when two are equal, and what a hasher is fed.
use Rattle.std.specs.Prelude.{◌≡◌, Bool, true, false, ◌&&◌, ◌++◌, Some, None, bytes_eq, refl}
use Rattle.std.proofs.Common.{ap, sym, ◌∙◌, true≢false}
use Rattle.std.specs.Bool.{Decides}
use Rattle.std.specs.Cmp.{first_so, second_so}
use Rattle.std.specs.Cmp.Lexicographic.{bytes_decides}
use Rattle.std.specs.Hash as fed
use Rattle.type_table.specs.Keys.{type_eq, type_writes, types_decide}
use Rattle.type_table.specs.Shape.{Label}
use Rattle.type_table.specs.declared.ir_type.IrType.{IrType}
use Rattle.link_names.specs.declared.shapes.labelled.Labelled.{Labelled}

-- whether two labels are one name, or both none
abbrev pub same_label : Label → Label → Bool
same_label None None = true
same_label (Some name) (Some other) = bytes_eq name other
same_label None (Some other) = false
same_label (Some name) None = false

-- whether two are written alike
abbrev pub same_labelled : Labelled → Labelled → Bool
same_labelled s t = same_label s.label t.label && type_eq s.head t.head

-- whether there is a label, the label, and what it stands at
abbrev pub writes_of : Label → IrType → fed.HashWrites
writes_of None head = fed.u8 0 ++ type_writes head
writes_of (Some name) head = fed.u8 1 ++ fed.slice fed.u8 name ++ type_writes head

-- what a hasher is fed of a shape
abbrev pub labelled_writes : Labelled → fed.HashWrites
labelled_writes s = writes_of s.label s.head

-- a label is equal to itself
label_same : (l : Label) → same_label l l ≡ true
label_same None = refl
label_same (Some name) = (bytes_decides name name).1 refl

-- labels that test equal are equal
label_so : (l m : Label) → same_label l m ≡ true → l ≡ m
label_so None None e = refl
label_so (Some name) (Some other) e = ap Some ((bytes_decides name other).0 e)
label_so None (Some other) e = absurd (true≢false (sym e))
label_so (Some name) None e = absurd (true≢false (sym e))

-- a shape is equal to itself
labelled_same : (s : Labelled) → same_labelled s s ≡ true
labelled_same s = λ j. label_same s.label j && (types_decide s.head s.head).1 refl j

-- shapes that test equal are equal
labelled_so : (s t : Labelled) → same_labelled s t ≡ true → s ≡ t
labelled_so s t e =
    λ j. record {
      label = label_so s.label t.label (first_so (same_label s.label t.label) (type_eq s.head t.head) e) j;
      head = (types_decide s.head t.head).0 (second_so (same_label s.label t.label) (type_eq s.head t.head) e) j;
    }

-- the test is true exactly where the two are equal
pub labels_decide : (s t : Labelled) → Decides (same_labelled s t) (s ≡ t)
labels_decide s t = (labelled_so s t, λ p. ap (same_labelled s) (sym p) ∙ labelled_same s)
