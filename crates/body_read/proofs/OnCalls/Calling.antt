-- Calls, from what their parts are found to be.
use Rattle.std.proofs.Common.{◌≡◌, ◌<◌, ℕ, Bool, true, false, cond, List, Option, Some, None, length, map, IfSome, refl, sym, ap, subst, ◌∙◌}
use Rattle.std.specs.Prelude.{nat_lt}
use Rattle.std.specs.Option.{option_map}
use Rattle.std.proofs.lemmas.List.Elements.{All-nil, All-cons}
use Rattle.ir_tables.specs.declared.opcode.Opcode.TheVariants as op
use Rattle.type_table.specs.Tree.{Tree, ptr}
use Rattle.type_table.specs.Types.{Types, tree}
use Rattle.module_arena.specs.declared.entry.LocalName as the_local
use Rattle.module_arena.specs.declared.instruction.Call.{Call}
use Rattle.module_arena.specs.declared.instruction.Inst.{Inst}
use Rattle.module_arena.specs.declared.instruction.Inst.TheVariants as inst
use Rattle.module_arena.specs.declared.instruction.Operand.{Operand}
use Rattle.module_arena.specs.declared.instruction.Value.{Value}
use Rattle.module_arena.specs.Module as m
use Rattle.module_arena.specs.TypeTests.{is_void}
use Rattle.module_arena.proofs.Replaced.{one_all}
use Rattle.record_table.specs.Constants.{value}
use Rattle.record_table.specs.Fields.{Numbering, Texts, truth, ty}
use Rattle.record_table.specs.Layout.{counted}
use Rattle.record_table.specs.Lines.{arguments, result_by, return_type}
use Rattle.record_table.specs.Walk.{Walk, next}
use Rattle.record_read.specs.Reader.{Reader, Reads, IsBroken, is_broken}
use Rattle.type_read.specs.declared.arena.module_reader.ModuleReader.{ModuleReader}
use Rattle.type_read.specs.Arena.Growing.{Growing, Grows}
use Rattle.type_read.specs.Arena.Kept.{Goes, IsKnownType, IsThere, tree_at}
use Rattle.type_read.proofs.OnArena.Kept.{same_table}
use Rattle.type_read.proofs.OnArena.Lasting.{ask_still, next_still}
use Rattle.type_read.proofs.OnArena.LeavesRead.{goes_takes}
use Rattle.type_read.proofs.OnArena.Steps.{goes_reader}
use Rattle.body_read.specs.Operands.Found.{Finds, HasBlock, HasOperands, HasType, HasValue, both, operands_in, type_in, value_in}
use Rattle.body_read.proofs.OnOperands.Joined.{HasAny, also, and_then, behind, none_found, put_so, starting}
use Rattle.body_read.specs.Lines.Kept.{HasInst, operation_in}
use Rattle.body_read.proofs.OnLines.Fields.{plain_in}
use Rattle.body_read.proofs.OnLines.Found.{mapped_two}
use Rattle.body_read.specs.Calls.Calls.{NamesResult, ReadsBoth, ReadsReturned, kept_call, operation_read}
use Rattle.body_read.proofs.OnCalls.Heads.{takes_walk}
use Rattle.body_read.proofs.OnCalls.ParameterTypes.{parameters_found}

-- a truth was read
pub truth_found : (a : ModuleReader) (r : Reader) (x : Bool) → Reads truth a.reader r x → Finds HasAny plain_in (λ k. truth.read) a (record a { reader = r }) (Some x)
truth_found a r x h = record {
  goes = goes_takes a (record a { reader = r }) (takes_walk a r (truth.read a.reader.walk).1 h.reader (λ broken. ask_still 3 (nat_lt (next a.reader.walk).0 2) (next a.reader.walk).1 (next_still a.reader.walk broken)));
  there = λ later w. tt;
  walk = λ k n. ap (λ (q : Reader). q.walk) h.reader;
  kept = λ k n declared unbroken later w. ap (λ (b : Bool). Some b) h.value;
}

-- the type that is returned
pub returned_found : (a b : ModuleReader) (x : Option ℕ) → ReadsReturned a b x → Finds HasType type_in (λ k. (return_type k).read) a b x
returned_found a b x r = record {
  goes = goes_takes a b r.takes;
  there = λ later g. there x r.known later g;
  walk = r.walk;
  kept = λ k n declared unbroken later g. is x r.known unbroken later g ((return_type k).read a.reader.walk).0 (r.tree_is k n);
}
  where
    there : (x : Option ℕ) → IsKnownType b x → (later : Growing) → Grows b.growing later → IsThere (HasType b.locals later.arena) x b.reader.walk
    there None h later g = h
    there (Some id) h later g = subst (λ (t : Types). id < length t.types) (sym (same_table b.growing later g)) h

    is : (x : Option ℕ) → IsKnownType b x → is_broken b.reader.walk ≡ false → (later : Growing) → Grows b.growing later → (t : Tree) → tree_at a.growing.arena.table x ≡ t → option_map (λ id. tree later.arena.table id) x ≡ Some t
    is None h unbroken later g t e = absurd (cc)
    is (Some id) h unbroken later g t e = ap (λ (u : Tree). Some u) (ap (λ (s : Types). tree s id) (same_table b.growing later g ∙ same_table a.growing b.growing (goes_takes a b r.takes).grows) ∙ e)

-- ---- a call as a whole

-- what stands behind the types of the parameters
abbrev pub last_read : List Tree → Numbering → Walk → (m.Value × List m.Operand) × Walk
last_read ts = behind (λ k. (value k ptr).read) (λ p k. (arguments k ts).read)

-- what stands behind the name of the result
abbrev pub named_read : Numbering → Walk → (Bool × (List Tree × (m.Value × List m.Operand))) × Walk
named_read = behind (λ k. truth.read) (λ p. behind (λ k. (counted (ty k)).read) last_read)

-- what stands behind the type that is returned
abbrev pub rest_read : Texts → ℕ → Bool → Numbering → Walk → (Bool × (List Tree × (m.Value × List m.Operand))) × Walk
rest_read texts own void k w = named_read k ((result_by texts own void).read w).1

-- what a call does, from its parts
abbrev pub operation_of : Tree × (Bool × (List Tree × (m.Value × List m.Operand))) → m.Operation
operation_of (t, (variadic, (ts, (callee, all)))) = m.Call (record { returns = t; parameters = ts; variadic = variadic }) callee all

goes_named : (texts : Texts) (own : ℕ) (void : Bool) (a b : ModuleReader) (name : Option the_local.LocalName) → NamesResult texts own void a b name → Goes a b
goes_named texts own void a b name h =
    goes_reader a b (record a.reader { walk = ((result_by texts own void).read a.reader.walk).1 }) h.rest refl (λ broken. subst IsBroken (ap (λ (x : ModuleReader). x.reader.walk) h.rest) (h.lasts broken))

module _ (texts : Texts) (own : ℕ) (void : Bool) (a b c d e f g : ModuleReader) (returns : Option ℕ) (name : Option the_local.LocalName) (variadic : Bool) (items : List (Option ℕ)) (known : List ℕ) (callee : Option Value) (all : Option (List Operand)) where
  pub call_found : (result : Option ℕ) → ReadsReturned a b returns → void ≡ is_void (tree_at b.growing.arena.table returns) → NamesResult texts own void b c name → Finds HasAny plain_in (λ k. truth.read) c d (Some variadic)
      → ReadsBoth d e items known → Finds HasValue value_in (λ k. (value k ptr).read) e f callee
      → Finds HasOperands operands_in (λ k. (arguments k (map (tree_at f.growing.arena.table) items)).read) f g all
      → Finds HasInst operation_in (operation_read texts own op.Call) a g (option_map (λ (x : Call). inst.Call x) (option_map (kept_call result) (both returns (both (Some variadic) (both (Some known) (both callee all))))))
  call_found result returned void_is named flag parameters target given =
      let table_e : f.growing.arena.table ≡ d.growing.arena.table = same_table e.growing f.growing target.goes.grows ∙ same_table d.growing e.growing (goes_takes d e parameters.reads.takes).grows in
      let last = also e f g callee all target given in
      let params = and_then last_read d e g (Some known) (both callee all) (parameters_found d e items known parameters) last
      (λ k n w. ap (λ ts. last_read ts k w) (ap (λ (t : Types). map (tree_at t) items) table_e ∙ parameters.reads.trees k n)) in
      let flagged = also c d g (Some variadic) (both (Some known) (both callee all)) flag params in
      let rest = starting (rest_read texts own void) b c g (both (Some variadic) (both (Some known) (both callee all))) (goes_named texts own void b c name named) flagged
      (λ k n. ap (λ (x : ModuleReader). named_read k x.reader.walk) named.rest) in
      let table_b : b.growing.arena.table ≡ a.growing.arena.table = same_table a.growing b.growing (goes_takes a b returned.takes).grows in
      let whole = and_then (λ t. rest_read texts own (is_void t)) a b g returns (both (Some variadic) (both (Some known) (both callee all))) (returned_found a b returns returned) rest
      (λ k n w. ap (λ v. rest_read texts own v k w) (void_is ∙ ap is_void (ap (λ (t : Types). tree_at t returns) table_b ∙ returned.tree_is k n))) in
      subst (Finds HasInst operation_in (operation_read texts own op.Call) a g) (sym (mapped_two (λ (x : Call). inst.Call x) (kept_call result) (both returns (both (Some variadic) (both (Some known) (both callee all))))))
      (put_so HasInst operation_in (λ y. inst.Call (kept_call result y)) operation_of a g (both returns (both (Some variadic) (both (Some known) (both callee all))))
      (λ l q y has. record {
        operands_known = has.1.1.1.1;
        values_known = one_all (HasValue l q) y.1.1.1.0 has.1.1.1.0;
        types_known = All-cons (HasType l q) y.0 y.1.1.0 has.0 has.1.1.0;
        blocks_known = All-nil (HasBlock l q);
      })
      (λ k q y. refl) whole)

-- ---- a line

-- an instruction is kept where no rule is broken
pub unless_broken : (read : Numbering → Walk → m.Operation × Walk) (a b : ModuleReader) (x y : Option Inst) → Finds HasInst operation_in read a b x → y ≡ cond (is_broken b.reader.walk) None x → Finds HasInst operation_in read a b y × (is_broken b.reader.walk ≡ true → y ≡ None)
unless_broken read a b x y h is = by (is_broken b.reader.walk) refl
  where
    by : (t : Bool) → is_broken b.reader.walk ≡ t → Finds HasInst operation_in read a b y × (is_broken b.reader.walk ≡ true → y ≡ None)
    by true e =
        let none : y ≡ None = is ∙ ap (λ t. cond t None x) e in
        (subst (Finds HasInst operation_in read a b) (sym none) (none_found HasInst operation_in read a b h.goes e h.walk), λ broken. none)
    by false e =
        let same : y ≡ x = is ∙ ap (λ t. cond t None x) e in
        (subst (Finds HasInst operation_in read a b) (sym same) h, λ broken. absurd (cc))

-- what holds of an instruction that is kept
pub kept_so : (P : Inst → Type 0) (b : Bool) (x y : Option Inst) → y ≡ cond b None x → (b ≡ false → IfSome x P) → IfSome y P
kept_so P true x y is h = subst (λ (z : Option Inst). IfSome z P) (sym is) tt
kept_so P false x y is h = subst (λ (z : Option Inst). IfSome z P) (sym is) (h refl)

-- what a call is made of
pub made_so : (P : Inst → Type 0) (x : Option Call) (y : Option Inst) → y ≡ option_map (λ (c : Call). inst.Call c) x → ((c : Call) → x ≡ Some c → P (inst.Call c)) → IfSome y P
made_so P None y is h = subst (λ (z : Option Inst). IfSome z P) (sym is) tt
made_so P (Some c) y is h = subst (λ (z : Option Inst). IfSome z P) (sym is) (h c refl)
