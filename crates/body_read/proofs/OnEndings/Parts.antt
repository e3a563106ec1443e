-- Ends of blocks, from what their parts are found to be.
use Rattle.std.proofs.Common.{◌≡◌, ◌≤◌, ℕ, zero, suc, Bool, true, false, cond, List, [], ◌∷◌, Option, Some, None, map, All, refl, sym, ap, subst, ◌∙◌, arith}
use Rattle.std.specs.Option.{option_map}
use Rattle.std.proofs.lemmas.List.Elements.{All-nil, All-cons}
use Rattle.ir_tables.specs.declared.opcode.Opcode.{Opcode}
use Rattle.ir_tables.specs.declared.opcode.Opcode.TheVariants as op
use Rattle.type_table.specs.Tree.{Tree, int}
use Rattle.type_table.specs.Types.{Types}
use Rattle.module_arena.specs.declared.instruction.Case.{Case}
use Rattle.module_arena.specs.declared.instruction.Ending.{Ending}
use Rattle.module_arena.specs.declared.instruction.Ending.TheVariants as kept
use Rattle.module_arena.specs.declared.instruction.Operand.{Operand}
use Rattle.module_arena.specs.declared.instruction.Value.TheVariants as the_value
use Rattle.module_arena.specs.Lists.{Lists}
use Rattle.module_arena.specs.Module as m
use Rattle.module_arena.proofs.Replaced.{one_all}
use Rattle.record_table.specs.Constants.{read_constant, value}
use Rattle.record_table.specs.Fields.{Numbering, block, ty}
use Rattle.record_table.specs.Layout.{◌&◌, counted, either_by, number, option}
use Rattle.record_table.specs.Lines as lines
use Rattle.record_table.specs.Lines.{ending, typed_value}
use Rattle.record_table.specs.Walk.{Walk, going, stopped, ask, next, stop}
use Rattle.record_read.specs.Reader.{Reader, Reads, is_broken, is_stopped}
use Rattle.type_read.specs.declared.arena.counts.LocalCounts.{LocalCounts}
use Rattle.type_read.specs.declared.arena.module_reader.ModuleReader.{ModuleReader}
use Rattle.type_read.specs.Arena.Growing.{IsConstant, IsType}
use Rattle.type_read.specs.Arena.Kept.{HasConstant, IsKnownType, IsRead, Keeps, ReadsType, TakesOnly, tree_at}
use Rattle.type_read.specs.Arena.Numbered.{Numbers}
use Rattle.type_read.proofs.OnArena.Kept.{same_table}
use Rattle.type_read.proofs.OnArena.Lasting.{stop_broken}
use Rattle.type_read.proofs.OnArena.LeavesRead.{goes_stopped, goes_takes}
use Rattle.type_read.proofs.OnArena.Steps.{goes_self, goes_two}
use Rattle.body_read.proofs.OnConstants.Making.{goes_number}
use Rattle.body_read.specs.Operands.Found.{Finds, HasBlock, HasOperand, HasRoom, block_in, both, operand_at, operand_in, room_in}
use Rattle.body_read.proofs.OnOperands.Joined.{also, behind, none_found, put, put_so, starting}
use Rattle.body_read.proofs.OnOperands.Leaves.{const_found, given_found, type_is}
use Rattle.body_read.specs.Endings.Ends.{HasCase, HasEnding, HaveCases, ReadsEnding, case_in, cases_in, condition, ending_in, kept_branch, kept_case, kept_return, kept_switch}

map_all : {A B : Type 0} (P : B → Type 0) (Q : A → Type 0) (f : A → B) (xs : List A) → ((x : A) → Q x → P (f x)) → All Q xs → All P (map f xs)
map_all P Q f [] h all k d lt = absurd (omega arith)
map_all P Q f (x ∷ xs) h all zero d lt = h x (all 0 x (omega arith))
map_all P Q f (x ∷ xs) h all (suc k) d lt = map_all P Q f xs h (λ i e le. all (suc i) e (omega arith)) k d (omega arith)

-- ---- returns

return_known : (l : LocalCounts) (a : Lists) (room : Option Operand) → HasRoom l a room → HasEnding l a (kept_return room)
return_known l a None h = record { operands = All-nil (HasOperand l a); targets = All-nil (HasBlock l a) }
return_known l a (Some x) h = record { operands = one_all (HasOperand l a) x h; targets = All-nil (HasBlock l a) }

return_seen : (k : Numbering) (a : Lists) (room : Option Operand) → ending_in k a (kept_return room) ≡ lines.return_of (room_in k a room)
return_seen k a None = refl
return_seen k a (Some x) = refl

pub return_found : (a b : ModuleReader) (room : Option (Option Operand)) → Finds HasRoom room_in (λ k. (option (typed_value k)).read) a b room → Finds HasEnding ending_in (λ k. (ending k op.Ret).read) a b (option_map kept_return room)
return_found a b room h = put_so HasEnding ending_in kept_return lines.return_of a b room return_known return_seen h

-- ---- branches

pub condition_found : (a b c d : ModuleReader) (bit : ℕ) (x : Option Operand) (y z : Option ℕ) → IsType a.growing.arena bit (int 1) → Finds HasOperand operand_in (λ k. operand_at k (tree_at a.growing.arena.table (Some bit))) a b x
    → Finds HasBlock block_in (λ k. (block k).read) b c y → Finds HasBlock block_in (λ k. (block k).read) c d z → Finds HasEnding ending_in condition a d (option_map kept_branch (both x (both y z)))
condition_found a b c d bit x y z is h i j =
    put_so HasEnding ending_in kept_branch (λ (c, (t, e)). m.Branch c t e) a d (both x (both y z))
    (λ l q w has. record { operands = one_all (HasOperand l q) w.0 has.0; targets = All-cons (HasBlock l q) w.1.0 (w.1.1 ∷ []) has.1.0 (one_all (HasBlock l q) w.1.1 has.1.1) })
    (λ k q w. refl)
    (also a b d x (both y z) (subst (λ (t : Tree). Finds HasOperand operand_in (λ k. operand_at k t) a b x) is.tree_is h) (also b c d y z i j))

-- a branch behind the number that says of which kind it is
abbrev by_number : Numbering → ℕ → Walk → m.Ending × Walk
by_number k n w = let x = either_by (block k) (value k (int 1) & block k & block k) n w in (lines.branch_of x.0, x.1)

by_zero : (k : Numbering) (w : Walk) → by_number k 0 w ≡ put (λ (b : m.LocalName). m.Jump b) (λ k. (block k).read) k w
unfolding either_by
by_zero k w = refl

by_one : (k : Numbering) (w : Walk) → by_number k 1 w ≡ condition k w
unfolding either_by
by_one k w = refl

pub asked_stopped : (rule : ℕ) (b : Bool) (broken : Option ℕ) → ask rule b (stopped broken) ≡ stopped broken
asked_stopped rule true broken = refl
asked_stopped rule false broken = refl

-- the place of a block asks nothing more where what stands next is not known
place_stopped : (k : Numbering) (w : Walk) → ((block k).read (stop 3 w)).1 ≡ stop 3 w
unfolding next
place_stopped k (going rest None) = asked_stopped 2 _ _
place_stopped k (going rest (Some r)) = asked_stopped 2 _ _
place_stopped k (stopped broken) = asked_stopped 2 _ _

by_other : (k : Numbering) (n : ℕ) (w : Walk) → 2 ≤ n → (by_number k n w).1 ≡ stop 3 w
unfolding either_by
by_other k zero w le = absurd (omega arith)
by_other k (suc zero) w le = absurd (omega arith)
by_other k (suc (suc n)) w le = place_stopped k w

pub jump_found : (a : ModuleReader) (r : Reader) (b : ModuleReader) (n : ℕ) (x : Option ℕ) → Reads number a.reader r n → n ≡ 0 → Finds HasBlock block_in (λ k. (block k).read) (record a { reader = r }) b x
    → Finds HasEnding ending_in (λ k. (ending k op.Br).read) a b (option_map (λ (id : ℕ). kept.Jump id) x)
jump_found a r b n x front none h =
    starting (λ k. (ending k op.Br).read) a (record a { reader = r }) b (option_map (λ (id : ℕ). kept.Jump id) x) (goes_number a r n front)
    (put_so HasEnding ending_in (λ (id : ℕ). kept.Jump id) (λ (name : m.LocalName). m.Jump name) (record a { reader = r }) b x
    (λ l q y has. record { operands = All-nil (HasOperand l q); targets = one_all (HasBlock l q) y has }) (λ k q y. refl) h)
    (λ k e. (λ j. put (λ (name : m.LocalName). m.Jump name) (λ k. (block k).read) k (front.reader j).walk) ∙ (sym (by_zero k (next a.reader.walk).1) ∙ ap (λ i. by_number k i (next a.reader.walk).1) (sym none ∙ front.value)))

pub branch_found : (a : ModuleReader) (r : Reader) (b : ModuleReader) (n : ℕ) (x : Option Ending) → Reads number a.reader r n → n ≡ 1 → Finds HasEnding ending_in condition (record a { reader = r }) b x → Finds HasEnding ending_in (λ k. (ending k op.Br).read) a b x
branch_found a r b n x front one h =
    starting (λ k. (ending k op.Br).read) a (record a { reader = r }) b x (goes_number a r n front) h
    (λ k e. (λ j. condition k (front.reader j).walk) ∙ (sym (by_one k (next a.reader.walk).1) ∙ ap (λ i. by_number k i (next a.reader.walk).1) (sym one ∙ front.value)))

pub branch_stopped : (a : ModuleReader) (r s : Reader) (n : ℕ) → Reads number a.reader r n → 2 ≤ n → s ≡ record r { walk = stop 3 r.walk } → (is_stopped s.walk ≡ true → is_broken s.walk ≡ true)
    → Finds HasEnding ending_in (λ k. (ending k op.Br).read) a (record a { reader = s }) None
branch_stopped a r s n front le at stops =
    let w : s.walk ≡ stop 3 r.walk = ap (λ (q : Reader). q.walk) at in
    none_found HasEnding ending_in (λ k. (ending k op.Br).read) a (record a { reader = s })
    (goes_two a (record a { reader = r }) (record a { reader = s }) (goes_number a r n front) (goes_stopped (record a { reader = r }) s 3 at))
    (stop_broken 3 r.walk s.walk w stops)
    (λ k h. w ∙ (ap (λ (q : Reader). stop 3 q.walk) front.reader ∙ (sym (by_other k n (next a.reader.walk).1 le) ∙ ap (λ i. (by_number k i (next a.reader.walk).1).1) front.value)))

-- ---- switches

-- a case of its parts
abbrev case_of_parts : Tree × (m.Constant × m.LocalName) → m.Case
case_of_parts (t, (v, b)) = record { ty = t; value = v; target = b }

-- the constant of a case as an operand
abbrev case_operand : Case → Operand
case_operand c = record { ty = c.ty; value = the_value.Known c.value }

-- the block that a case goes to
abbrev case_target : Case → ℕ
case_target c = c.target

pub case_found : (a b c : ModuleReader) (t x y : Option ℕ) → IsKnownType a t → Keeps HasConstant a b x → ((k : Numbering) → Numbers a k → IsRead k IsConstant (read_constant k (tree_at a.growing.arena.table t) a.reader.walk) a b x)
    → Finds HasBlock block_in (λ k. (block k).read) b c y → Finds HasCase case_in (λ k. (lines.case_of k (tree_at a.growing.arena.table t)).read) a c (option_map kept_case (both t (both x y)))
case_found a b c t x y known keeps reads h =
    let u = tree_at a.growing.arena.table t in
    put_so HasCase case_in kept_case case_of_parts a c (both t (both x y))
    (λ l q w has. record { ty = has.0; value = has.1.0; target = has.1.1 }) (λ k q w. refl)
    (also a a c t (both x y) (given_found a t u known refl) (also a b c x y (const_found (λ k w. read_constant k u w) a b x keeps reads) h))

-- the type, and an operand of it, a block and cases
abbrev switch_read : Numbering → Walk → (m.Operand × (m.LocalName × List m.Case)) × Walk
switch_read k w = let t = (ty k).read w in behind (λ k. operand_at k t.0) (λ p. behind (λ k. (block k).read) (λ p k. (counted (lines.case_of k t.0)).read)) k t.1

pub switch_found : (a b c d e : ModuleReader) (t : Option ℕ) (x : Option Operand) (y : Option ℕ) (z : Option (List Case)) → TakesOnly a b → ((k : Numbering) → Numbers a k → ReadsType k a b t)
    → Finds HasOperand operand_in (λ k. operand_at k (tree_at b.growing.arena.table t)) b c x → Finds HasBlock block_in (λ k. (block k).read) c d y
    → Finds HaveCases cases_in (λ k. (counted (lines.case_of k (tree_at d.growing.arena.table t))).read) d e z
    → Finds HasEnding ending_in (λ k. (ending k op.Switch).read) a e (option_map kept_switch (both x (both y z)))
switch_found a b c d e t x y z takes reads h i j =
    put_so HasEnding ending_in kept_switch (λ (v, (b, cs)). m.Switch v b cs) a e (both x (both y z))
    (λ l q w has. record {
      operands = All-cons (HasOperand l q) w.0 (map case_operand w.1.1) has.0 (map_all (HasOperand l q) (HasCase l q) case_operand w.1.1 (λ c g. (g.ty, g.value)) has.1.1);
      targets = All-cons (HasBlock l q) w.1.0 (map case_target w.1.1) has.1.0 (map_all (HasBlock l q) (HasCase l q) case_target w.1.1 (λ c g. g.target) has.1.1);
    })
    (λ k q w. refl)
    (starting switch_read a b e (both x (both y z)) (goes_takes a b takes) (also b c e x (both y z) h (also c d e y z i j))
    (λ k n.
    let first = type_is a b t takes reads k n in
    let second = ap (λ (s : Types). tree_at s t) (same_table c.growing d.growing i.goes.grows ∙ same_table b.growing c.growing h.goes.grows) ∙ first in
    let at = ap (λ (q : Reader). q.walk) (reads k n).reader in
    λ v. behind (λ k. operand_at k (first v)) (λ p. behind (λ k. (block k).read) (λ p k. (counted (lines.case_of k (second v))).read)) k (at v)))

-- ---- any end

pub unreachable_found : (a : ModuleReader) → Finds HasEnding ending_in (λ k. (ending k op.Unreachable).read) a a (Some kept.Unreachable)
unreachable_found a = record {
  goes = goes_self a;
  there = λ later g. record { operands = All-nil (HasOperand a.locals later.arena); targets = All-nil (HasBlock a.locals later.arena) };
  walk = λ k n. refl;
  kept = λ k n declared unbroken later g. refl;
}

pub unreachable_is : (o : Opcode) → lines.is_end o ≡ true → (o ≡ op.Ret → ⊥) → (o ≡ op.Br → ⊥) → (o ≡ op.Switch → ⊥) → o ≡ op.Unreachable
unreachable_is op.Ret end ret br switch = absurd (ret refl)
unreachable_is op.Br end ret br switch = absurd (br refl)
unreachable_is op.Switch end ret br switch = absurd (switch refl)
unreachable_is op.Unreachable end ret br switch = refl
unreachable_is _ end ret br switch = absurd (cc)

-- an end is kept where no rule is broken
pub unless_broken : (o : Opcode) (a b : ModuleReader) (x y : Option Ending) → Finds HasEnding ending_in (λ k. (ending k o).read) a b x → y ≡ cond (is_broken b.reader.walk) None x → ReadsEnding o a b y
unless_broken o a b x y h is = by (is_broken b.reader.walk) refl
  where
    by : (t : Bool) → is_broken b.reader.walk ≡ t → ReadsEnding o a b y
    by true e =
        let none : y ≡ None = is ∙ ap (λ t. cond t None x) e in
        subst (ReadsEnding o a b) (sym none) (record { reads = none_found HasEnding ending_in (λ k. (ending k o).read) a b h.goes e h.walk; none = λ broken. refl })
    by false e =
        let same : y ≡ x = is ∙ ap (λ t. cond t None x) e in
        subst (ReadsEnding o a b) (sym same) (record { reads = h; none = λ broken. absurd (cc) })
