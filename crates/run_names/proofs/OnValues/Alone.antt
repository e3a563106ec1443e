-- An integer that is a whole value.
use Rattle.std.proofs.Common.{◌≡◌, ℕ, ◌*◌, [], ◌∷◌, Option, Some, None, Ok, sym, ap, ap₂, ◌∙◌}
use Rattle.std.specs.Prelude.{IfSome}
use Rattle.ir_eval.specs.declared.value.Pointer.{Pointer}
use Rattle.ir_eval.specs.declared.value.Scalar.TheVariants as scalar
use Rattle.ir_memory.specs.declared.leaf.Leaf.TheVariants as leaf
use Rattle.ir_memory.specs.Memory.{Blocks, loaded, stored}
use Rattle.run_rules.specs.Access.{and_then, behind, in_front, loaded_slots, loaded_value, stored_slots, stored_value}
use Rattle.run_rules.specs.Leaves.{Slot}

pub loaded_alone : (m : Blocks) (p q : Pointer) (align offset count : ℕ) (s : Slot) (found : Option ℕ) → offset ≡ s.offset → q ≡ behind p offset → s.leaf ≡ leaf.Int (8 * count)
    → IfSome found (λ n. loaded m (scalar.Ptr q) (leaf.Int (8 * count)) align ≡ Ok (scalar.Int n)) → IfSome found (λ n. loaded_value m (scalar.Ptr p) align (s ∷ []) ≡ Ok (scalar.Int n ∷ []))
loaded_alone m p q align offset count s None far place of is = tt
loaded_alone m p q align offset count s (Some n) far place of is =
    ap (λ one. in_front one (loaded_slots m p 1 [])) (ap₂ (λ q kind. loaded m (scalar.Ptr q) kind align) (sym (place ∙ ap (behind p) far)) of ∙ is)

pub stored_alone : (m new : Blocks) (p q : Pointer) (align offset count number : ℕ) (s : Slot) → offset ≡ s.offset → q ≡ behind p offset → s.leaf ≡ leaf.Int (8 * count)
    → stored (scalar.Ptr q) (leaf.Int (8 * count)) align (scalar.Int number) m ≡ Ok new → stored_value (scalar.Ptr p) align ((s, scalar.Int number) ∷ []) m ≡ Ok new
stored_alone m new p q align offset count number s far place of is =
    ap (λ one. and_then one (λ n. stored_slots p 1 [] n)) (ap₂ (λ q kind. stored (scalar.Ptr q) kind align (scalar.Int number) m) (sym (place ∙ ap (behind p) far)) of ∙ is)
