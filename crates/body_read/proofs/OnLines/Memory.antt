-- Instructions on memory and addresses, from what their parts are found to be.
use Rattle.std.proofs.Common.{ℕ, List, [], ◌∷◌, Option, Some, None, All, refl}
use Rattle.std.specs.Prelude.{option_to_list}
use Rattle.std.specs.Option.{option_map}
use Rattle.std.proofs.lemmas.List.Elements.{All-nil, All-cons}
use Rattle.ir_tables.specs.declared.opcode.Opcode.TheVariants as op
use Rattle.type_table.specs.Tree.{ptr}
use Rattle.module_arena.specs.declared.instruction.Operand.{Operand}
use Rattle.module_arena.specs.Lists.{Lists}
use Rattle.module_arena.specs.Module as m
use Rattle.module_arena.proofs.Replaced.{one_all}
use Rattle.record_table.specs.Fields.{alignment, flags, ty}
use Rattle.record_table.specs.Layout.{counted, option}
use Rattle.record_table.specs.Lines.{typed_value}
use Rattle.type_read.specs.declared.arena.counts.LocalCounts.{LocalCounts}
use Rattle.type_read.specs.declared.arena.module_reader.ModuleReader.{ModuleReader}
use Rattle.body_read.specs.Operands.Found.{Finds, HasBlock, HasOperand, HasOperands, HasRoom, HasType, HasValue, both, operand_at, operand_in, operands_in, room_in, type_in}
use Rattle.body_read.proofs.OnOperands.Joined.{HasAny, also, put_so}
use Rattle.body_read.specs.Lines.Kept.{DoesInst, GivesInst, kept_alloca, kept_load, kept_steps, kept_store, operation_in}
use Rattle.body_read.specs.Lines.Operations.{operation}
use Rattle.body_read.proofs.OnLines.Fields.{plain_in}

pub load_found : (defined : ℕ) (a b c d e : ModuleReader) (bits : ℕ) (t : Option ℕ) (x : Option Operand) (align : Option ℕ) → Finds HasAny plain_in (λ k. (flags op.Load).read) a b (Some bits) → Finds HasType type_in (λ k. (ty k).read) b c t
    → Finds HasOperand operand_in (λ k. operand_at k ptr) c d x → Finds HasAny plain_in (λ k. alignment.read) d e (Some align)
    → Finds (GivesInst defined) operation_in (λ k. (operation k op.Load).read) a e (option_map (kept_load defined) (both (Some bits) (both t (both x (Some align)))))
load_found defined a b c d e bits t x align h i j l =
    put_so (GivesInst defined) operation_in (kept_load defined) (λ (f, (t, (x, align))). m.Load f t x align) a e (both (Some bits) (both t (both x (Some align))))
    (λ n q y has. (
      record {
        operands_known = one_all (HasOperand n q) y.1.1.0 has.1.1.0;
        values_known = All-nil (HasValue n q);
        types_known = one_all (HasType n q) y.1.0 has.1.0;
        blocks_known = All-nil (HasBlock n q);
      },
      refl,
    ))
    (λ k q y. refl) (also a b e (Some bits) (both t (both x (Some align))) h (also b c e t (both x (Some align)) i (also c d e x (Some align) j l)))

pub store_found : (a b c d e : ModuleReader) (bits : ℕ) (v x : Option Operand) (align : Option ℕ) → Finds HasAny plain_in (λ k. (flags op.Store).read) a b (Some bits) → Finds HasOperand operand_in (λ k. (typed_value k).read) b c v
    → Finds HasOperand operand_in (λ k. operand_at k ptr) c d x → Finds HasAny plain_in (λ k. alignment.read) d e (Some align)
    → Finds DoesInst operation_in (λ k. (operation k op.Store).read) a e (option_map kept_store (both (Some bits) (both v (both x (Some align)))))
store_found a b c d e bits v x align h i j l =
    put_so DoesInst operation_in kept_store (λ (f, (v, (x, align))). m.Store f v x align) a e (both (Some bits) (both v (both x (Some align))))
    (λ n q y has. (
      record {
        operands_known = All-cons (HasOperand n q) y.1.0 (y.1.1.0 ∷ []) has.1.0 (one_all (HasOperand n q) y.1.1.0 has.1.1.0);
        values_known = All-nil (HasValue n q);
        types_known = All-nil (HasType n q);
        blocks_known = All-nil (HasBlock n q);
      },
      refl,
    ))
    (λ k q y. refl) (also a b e (Some bits) (both v (both x (Some align))) h (also b c e v (both x (Some align)) i (also c d e x (Some align) j l)))

-- an operand that is written is in a list of one
room_all : (n : LocalCounts) (q : Lists) (room : Option Operand) → HasRoom n q room → All (HasOperand n q) (option_to_list room)
room_all n q None h = All-nil (HasOperand n q)
room_all n q (Some x) h = one_all (HasOperand n q) x h

pub alloca_found : (defined : ℕ) (a b c d : ModuleReader) (t : Option ℕ) (room : Option (Option Operand)) (align : Option ℕ) → Finds HasType type_in (λ k. (ty k).read) a b t → Finds HasRoom room_in (λ k. (option (typed_value k)).read) b c room
    → Finds HasAny plain_in (λ k. alignment.read) c d (Some align) → Finds (GivesInst defined) operation_in (λ k. (operation k op.Alloca).read) a d (option_map (kept_alloca defined) (both t (both room (Some align))))
alloca_found defined a b c d t room align h i j =
    put_so (GivesInst defined) operation_in (kept_alloca defined) (λ (t, (count, align)). m.Alloca t count align) a d (both t (both room (Some align)))
    (λ n q y has. (
      record {
        operands_known = room_all n q y.1.0 has.1.0;
        values_known = All-nil (HasValue n q);
        types_known = one_all (HasType n q) y.0 has.0;
        blocks_known = All-nil (HasBlock n q);
      },
      refl,
    ))
    (λ k q y. refl) (also a b d t (both room (Some align)) h (also b c d room (Some align) i j))

pub steps_found : (defined : ℕ) (a b c d e : ModuleReader) (bits : ℕ) (t : Option ℕ) (x : Option Operand) (is : Option (List Operand)) → Finds HasAny plain_in (λ k. (flags op.GetElementPtr).read) a b (Some bits) → Finds HasType type_in (λ k. (ty k).read) b c t
    → Finds HasOperand operand_in (λ k. operand_at k ptr) c d x → Finds HasOperands operands_in (λ k. (counted (typed_value k)).read) d e is
    → Finds (GivesInst defined) operation_in (λ k. (operation k op.GetElementPtr).read) a e (option_map (kept_steps defined) (both (Some bits) (both t (both x is))))
steps_found defined a b c d e bits t x is h i j l =
    put_so (GivesInst defined) operation_in (kept_steps defined) (λ (f, (t, (x, all))). m.GetElementPtr f t x all) a e (both (Some bits) (both t (both x is)))
    (λ n q y has. (
      record {
        operands_known = All-cons (HasOperand n q) y.1.1.0 y.1.1.1 has.1.1.0 has.1.1.1;
        values_known = All-nil (HasValue n q);
        types_known = one_all (HasType n q) y.1.0 has.1.0;
        blocks_known = All-nil (HasBlock n q);
      },
      refl,
    ))
    (λ k q y. refl) (also a b e (Some bits) (both t (both x is)) h (also b c e t (both x is) i (also c d e x is j l)))
