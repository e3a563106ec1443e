-- What an operand is, from its type and its value.
use Rattle.std.proofs.Common.{◌≡◌, ◌≤◌, ℕ, zero, suc, true, Option, Some, None, refl, sym, ap, ◌∙◌, arith}
use Rattle.std.specs.Option.{option_map}
use Rattle.module_arena.specs.declared.instruction.Operand as the_operand
use Rattle.module_arena.specs.declared.instruction.Value as the_value
use Rattle.module_arena.specs.Module as m
use Rattle.record_table.specs.Constants.{value}
use Rattle.record_table.specs.Fields.{Numbering}
use Rattle.record_table.specs.Layout.{number, option, option_by}
use Rattle.record_table.specs.Lines.{operand, typed_value}
use Rattle.record_table.specs.Walk.{Walk, next, stop}
use Rattle.record_read.specs.Reader.{Reader, Reads, is_broken, is_stopped}
use Rattle.type_read.specs.declared.arena.module_reader.ModuleReader.{ModuleReader}
use Rattle.type_read.specs.Arena.Kept.{IsKnownType, ReadsType, TakesOnly, tree_at}
use Rattle.type_read.specs.Arena.Numbered.{Numbers}
use Rattle.type_read.proofs.OnArena.Lasting.{stop_broken}
use Rattle.type_read.proofs.OnArena.LeavesRead.{goes_stopped, goes_takes}
use Rattle.type_read.proofs.OnArena.Steps.{goes_self, goes_two}
use Rattle.body_read.proofs.OnConstants.Making.{goes_number}
use Rattle.body_read.specs.Operands.Found.{Finds, HasOperand, HasRoom, HasValue, both, kept_operand, operand_at, operand_in, room_in, value_in}
use Rattle.body_read.proofs.OnOperands.Joined.{also, none_found, put, put_so, starting}
use Rattle.body_read.proofs.OnOperands.Leaves.{given_found, type_is}

-- a value of a type that is known
pub operand_found : (a b : ModuleReader) (x : Option ℕ) (v : Option the_value.Value) → IsKnownType a x → Finds HasValue value_in (λ k. (value k (tree_at a.growing.arena.table x)).read) a b v
    → Finds HasOperand operand_in (λ k. operand_at k (tree_at a.growing.arena.table x)) a b (option_map kept_operand (both x v))
operand_found a b x v known h =
    put_so HasOperand operand_in kept_operand (λ (t, u). operand t u) a b (both x v) (λ l q y has. (has.0, has.1)) (λ k q y. refl)
    (also a a b x v (given_found a x (tree_at a.growing.arena.table x) known refl) h)

-- a value behind its type
pub typed_found : (a b c : ModuleReader) (x : Option ℕ) (o : Option the_operand.Operand) → TakesOnly a b → ((k : Numbering) → Numbers a k → ReadsType k a b x)
    → Finds HasOperand operand_in (λ k. operand_at k (tree_at b.growing.arena.table x)) b c o → Finds HasOperand operand_in (λ k. (typed_value k).read) a c o
typed_found a b c x o takes reads h =
    starting (λ k. (typed_value k).read) a b c o (goes_takes a b takes) h
    (λ k n. λ j. operand_at k (type_is a b x takes reads k n j) (ap (λ (r : Reader). r.walk) (reads k n).reader j))

-- ---- an operand that may be left out

option_none : (k : Numbering) (w v : Walk) (n : ℕ) → n ≡ 0 → n ≡ (next w).0 → v ≡ (next w).1 → (None, v) ≡ (option (typed_value k)).read w
unfolding option_by
option_none k w v n none is at = (λ j. (None, at j)) ∙ ap (λ i. option_by (typed_value k) i (next w).1) (sym none ∙ is)

option_some : (k : Numbering) (w v : Walk) (n : ℕ) → n ≡ 1 → n ≡ (next w).0 → v ≡ (next w).1 → put (λ (o : m.Operand). Some o) (λ k. (typed_value k).read) k v ≡ (option (typed_value k)).read w
unfolding option_by
option_some k w v n one is at = (λ j. put (λ (o : m.Operand). Some o) (λ k. (typed_value k).read) k (at j)) ∙ ap (λ i. option_by (typed_value k) i (next w).1) (sym one ∙ is)

option_other : (k : Numbering) (w : Walk) (n : ℕ) → 2 ≤ n → option_by (typed_value k) n w ≡ (None, stop 3 w)
unfolding option_by
option_other k w zero le = absurd (omega arith)
option_other k w (suc zero) le = absurd (omega arith)
option_other k w (suc (suc n)) le = refl

-- none is written
none_written : (a : ModuleReader) → Finds HasRoom room_in (λ k w. (None, w)) a a (Some None)
none_written a = record {
  goes = goes_self a;
  there = λ later g. tt;
  walk = λ k n. refl;
  kept = λ k n declared unbroken later g. refl;
}

pub room_none : (a : ModuleReader) (r : Reader) (n : ℕ) → Reads number a.reader r n → n ≡ 0 → Finds HasRoom room_in (λ k. (option (typed_value k)).read) a (record a { reader = r }) (Some None)
room_none a r n front none =
    starting (λ k. (option (typed_value k)).read) a (record a { reader = r }) (record a { reader = r }) (Some None) (goes_number a r n front) (none_written (record a { reader = r }))
    (λ k h. option_none k a.reader.walk r.walk n none front.value (ap (λ (q : Reader). q.walk) front.reader))

pub room_some : (a : ModuleReader) (r : Reader) (b : ModuleReader) (n : ℕ) (o : Option the_operand.Operand) → Reads number a.reader r n → n ≡ 1 → Finds HasOperand operand_in (λ k. (typed_value k).read) (record a { reader = r }) b o
    → Finds HasRoom room_in (λ k. (option (typed_value k)).read) a b (option_map (λ (x : the_operand.Operand). Some x) o)
room_some a r b n o front one h =
    starting (λ k. (option (typed_value k)).read) a (record a { reader = r }) b (option_map (λ (x : the_operand.Operand). Some x) o) (goes_number a r n front)
    (put_so HasRoom room_in (λ (x : the_operand.Operand). Some x) (λ (x : m.Operand). Some x) (record a { reader = r }) b o (λ l q y has. has) (λ k q y. refl) h)
    (λ k e. option_some k a.reader.walk r.walk n one front.value (ap (λ (q : Reader). q.walk) front.reader))

pub room_stopped : (a : ModuleReader) (r s : Reader) (n : ℕ) → Reads number a.reader r n → 2 ≤ n → s ≡ record r { walk = stop 3 r.walk } → (is_stopped s.walk ≡ true → is_broken s.walk ≡ true)
    → Finds HasRoom room_in (λ k. (option (typed_value k)).read) a (record a { reader = s }) None
room_stopped a r s n front le at stops =
    let w : s.walk ≡ stop 3 r.walk = ap (λ (q : Reader). q.walk) at in
    none_found HasRoom room_in (λ k. (option (typed_value k)).read) a (record a { reader = s })
    (goes_two a (record a { reader = r }) (record a { reader = s }) (goes_number a r n front) (goes_stopped (record a { reader = r }) s 3 at))
    (stop_broken 3 r.walk s.walk w stops)
    (λ k h. w ∙ (ap (λ (q : Reader). stop 3 q.walk) front.reader ∙ ap (λ (x : Option m.Operand × Walk). x.1) (sym (option_other k (next a.reader.walk).1 n le) ∙ ap (λ i. option_by (typed_value k) i (next a.reader.walk).1) front.value)))
