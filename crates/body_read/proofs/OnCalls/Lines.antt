-- Lines: an instruction behind what its result is called.
use Rattle.std.proofs.Common.{◌≡◌, ℕ, Bool, true, false, cond, List, [], ◌∷◌, Option, Some, None, IfSome, refl, sym, ap, subst, ◌∙◌}
use Rattle.std.specs.Prelude.{option_to_list}
use Rattle.std.specs.Option.{option_map}
use Rattle.ir_tables.specs.declared.opcode.Opcode.{Opcode}
use Rattle.ir_tables.specs.declared.opcode.Opcode.TheVariants as op
use Rattle.module_arena.proofs.Found.{some-equal}
use Rattle.module_arena.specs.declared.entry.LocalName as the_local
use Rattle.module_arena.specs.declared.instruction.Call.{Call}
use Rattle.module_arena.specs.declared.instruction.Inst.{Inst}
use Rattle.module_arena.specs.declared.instruction.Inst.TheVariants as inst
use Rattle.module_arena.specs.Lists.{Lists}
use Rattle.module_arena.specs.Mentions.{result_of}
use Rattle.module_arena.specs.Module as m
use Rattle.module_arena.specs.TypeTests.{is_void}
use Rattle.type_table.specs.Types.{Types}
use Rattle.record_table.specs.Fields.{Numbering, Texts, label}
use Rattle.record_table.specs.Lines.{giving, instruction, is_end, result_by}
use Rattle.record_table.specs.Walk.{Walk}
use Rattle.record_read.specs.declared.texts.Texts as the_texts
use Rattle.record_read.specs.Fields.{IsLocal, texts_of}
use Rattle.record_read.specs.Reader.{Reader, ReadsAs, IsBroken, is_broken}
use Rattle.type_read.specs.declared.arena.counts.LocalCounts.{LocalCounts}
use Rattle.type_read.specs.declared.arena.module_reader.ModuleReader.{ModuleReader}
use Rattle.type_read.specs.Arena.Kept.{IsThere, tree_at}
use Rattle.type_read.proofs.OnArena.Kept.{grows_self, same_table}
use Rattle.type_read.proofs.OnArena.LeavesRead.{goes_takes}
use Rattle.body_read.specs.Operands.Found.{Finds}
use Rattle.body_read.proofs.OnOperands.Joined.{starting}
use Rattle.body_read.specs.Lines.Kept.{DoesInst, GivesInst, HasInst, operation_in}
use Rattle.body_read.specs.Lines.Operations.{is_giving, operation}
use Rattle.body_read.specs.Calls.Calls.{IsNameOf, NamesResult, ReadsLine, ReadsReturned, ids_of, name_behind, operation_read}
use Rattle.body_read.proofs.OnCalls.Calling.{kept_so, made_so, unless_broken}
use Rattle.body_read.proofs.OnCalls.Heads.{label_still, name_stays, named_by, takes_walk}

-- what stands behind the name of a result
abbrev named_line : Texts → Numbering → ℕ → Opcode → Walk → m.Instruction × Walk
named_line texts k own o w = let n = (label texts own).read w in let x = (operation k o).read n.1 in (giving n.0 x.0, x.1)

instruction_is : (texts : Texts) (k : Numbering) (own : ℕ) (o : Opcode) → is_giving o ≡ true → (instruction texts k own o).read ≡ named_line texts k own o
instruction_is texts k own op.Store h = absurd (cc)
instruction_is texts k own op.Call h = absurd (cc)
instruction_is texts k own op.Ret h = absurd (cc)
instruction_is texts k own op.Br h = absurd (cc)
instruction_is texts k own op.Switch h = absurd (cc)
instruction_is texts k own op.Unreachable h = absurd (cc)
instruction_is texts k own _ h = refl

-- its name stands in front
behind_is : (texts : Texts) (k : Numbering) (own : ℕ) (o : Opcode) (w : Walk) → is_giving o ≡ true → name_behind texts own o k w ≡ ((label texts own).read w).1
behind_is texts k own op.Store w h = absurd (cc)
behind_is texts k own op.Call w h = absurd (cc)
behind_is texts k own _ w h = refl

pub giving_is : (o : Opcode) → is_end o ≡ false → (o ≡ op.Call → ⊥) → (o ≡ op.Store → ⊥) → is_giving o ≡ true
giving_is op.Ret end call store = absurd (cc)
giving_is op.Br end call store = absurd (cc)
giving_is op.Switch end call store = absurd (cc)
giving_is op.Unreachable end call store = absurd (cc)
giving_is op.Call end call store = absurd (call refl)
giving_is op.Store end call store = absurd (store refl)
giving_is _ end call store = refl

weaker : {A B : Type 0} {H : LocalCounts → Lists → B → Type 0} {v : Numbering → Lists → B → A} {read : Numbering → Walk → A × Walk} (I : LocalCounts → Lists → B → Type 0) (a b : ModuleReader) (x : Option B)
    → ((l : LocalCounts) (q : Lists) (y : B) → H l q y → I l q y) → Finds H v read a b x → Finds I v read a b x
weaker {A} {B} {H} {v} {read} I a b x has h = record {
  goes = h.goes;
  there = λ later w. by x later.arena (h.there later w);
  walk = h.walk;
  kept = h.kept;
}
  where
    by : (y : Option B) (q : Lists) → IsThere (H b.locals q) y b.reader.walk → IsThere (I b.locals q) y b.reader.walk
    by None q g = g
    by (Some y) q g = has b.locals q y g

-- ---- an instruction with a result

ids_given : (defined : ℕ) (name : Option the_local.LocalName) (value : m.LocalName) (w : Walk) → IsNameOf name (Some value) w → is_broken w ≡ false → ids_of defined name ≡ defined ∷ []
ids_given defined None value w h unbroken = absurd (cc)
ids_given defined (Some name) value w h unbroken = refl

results_given : (defined : ℕ) (b : ModuleReader) (x : Option Inst) (ids : List ℕ) → ids ≡ defined ∷ [] → IsThere (GivesInst defined b.locals b.growing.arena) x b.reader.walk → IfSome x (λ i. result_of i ≡ ids)
results_given defined b None ids is h = tt
results_given defined b (Some i) ids is h = h.1 ∙ sym is

pub giving_line : (t : the_texts.Texts) (own defined : ℕ) (o : Opcode) (a : ModuleReader) (r : Reader) (b : ModuleReader) (name : Option the_local.LocalName) (x y : Option Inst) → is_giving o ≡ true → ReadsAs IsLocal (label (texts_of t) own) a.reader r name
    → Finds (GivesInst defined) operation_in (λ k. (operation k o).read) (record a { reader = r }) b x → y ≡ cond (is_broken b.reader.walk) None x → ReadsLine (texts_of t) defined own o a b (record { name = name; instruction = y })
giving_line t own defined o a r b name x y gives named found is =
    let texts = texts_of t in
    let at : r.walk ≡ ((label texts own).read a.reader.walk).1 = ap (λ (q : Reader). q.walk) named.reader in
    let goes = goes_takes a (record a { reader = r }) (takes_walk a r ((label texts own).read a.reader.walk).1 named.reader (λ broken. label_still t own a.reader.walk broken)) in
    let all = starting (operation_read texts own o) a (record a { reader = r }) b x goes (weaker HasInst (record a { reader = r }) b x (λ l q i h. h.0) found)
    (λ k n. (λ j. (operation k o).read (at j)) ∙ sym (ap (λ (f : Walk → m.Instruction × Walk). let i = f a.reader.walk in (i.0.operation, i.1)) (instruction_is texts k own o gives))) in
    let kept = unless_broken (operation_read texts own o) a b x y all is in
    let called = named_by name ((label texts own).read a.reader.walk).0 r.walk named.kept in
    let later = name_stays name (Some ((label texts own).read a.reader.walk).0) r.walk b.reader.walk found.goes.lasts called in
    record {
      reads = kept.0;
      none = kept.1;
      defines = kept_so (λ i. result_of i ≡ ids_of defined name) (is_broken b.reader.walk) x y is
          (λ unbroken. results_given defined b x (ids_of defined name) (ids_given defined name ((label texts own).read a.reader.walk).0 b.reader.walk later unbroken) (found.there b.growing (grows_self b.growing)));
      name = λ k n.
          subst (λ (v : Walk). IsNameOf name ((instruction texts k own o).read a.reader.walk).0.result v) (at ∙ sym (behind_is texts k own o a.reader.walk gives))
          (subst (λ (v : Option m.LocalName). IsNameOf name v r.walk) (sym (ap (λ (f : Walk → m.Instruction × Walk). (f a.reader.walk).0.result) (instruction_is texts k own o gives))) called);
    }

-- ---- a store

results_none : (b : ModuleReader) (x : Option Inst) → IsThere (DoesInst b.locals b.growing.arena) x b.reader.walk → IfSome x (λ i. result_of i ≡ [])
results_none b None h = tt
results_none b (Some i) h = h.1

pub store_line : (texts : Texts) (own defined : ℕ) (a b : ModuleReader) (x y : Option Inst) → Finds DoesInst operation_in (λ k. (operation k op.Store).read) a b x → y ≡ cond (is_broken b.reader.walk) None x
    → ReadsLine texts defined own op.Store a b (record { name = None; instruction = y })
store_line texts own defined a b x y found is =
    let kept = unless_broken (operation_read texts own op.Store) a b x y (weaker HasInst a b x (λ l q i h. h.0) found) is in
    record {
      reads = kept.0;
      none = kept.1;
      defines = kept_so (λ i. result_of i ≡ []) (is_broken b.reader.walk) x y is (λ unbroken. results_none b x (found.there b.growing (grows_self b.growing)));
      name = λ k n. tt;
    }

-- ---- a call

ids_so : (texts : Texts) (own defined : ℕ) (void : Bool) (w v : Walk) (name : Option the_local.LocalName) → IsNameOf name ((result_by texts own void).read w).0 v → is_broken v ≡ false → option_to_list (cond void None (Some defined)) ≡ ids_of defined name
ids_so texts own defined true w v None h unbroken = refl
ids_so texts own defined true w v (Some name) h unbroken = absurd h
ids_so texts own defined false w v None h unbroken = absurd (cc)
ids_so texts own defined false w v (Some name) h unbroken = refl

result_so : {A : Type 0} (f : A → Call) (result : Option ℕ) (x : Option A) (c : Call) → ((y : A) → (f y).result ≡ result) → option_map f x ≡ Some c → c.result ≡ result
result_so f result None c same is = absurd (cc)
result_so f result (Some y) c same is = ap (λ (d : Call). d.result) (sym (some-equal is)) ∙ same y

pub call_line : {A : Type 0} (texts : Texts) (own defined : ℕ) (void : Bool) (a b c g : ModuleReader) (returns : Option ℕ) (name : Option the_local.LocalName) (result : Option ℕ) (f : A → Call) (parts : Option A) (call : Option Call) (x y : Option Inst)
    → ReadsReturned a b returns → void ≡ is_void (tree_at b.growing.arena.table returns) → NamesResult texts own void b c name → (IsBroken c.reader.walk → IsBroken g.reader.walk) → result ≡ cond void None (Some defined) → ((z : A) → (f z).result ≡ result)
    → call ≡ option_map f parts → x ≡ option_map (λ (d : Call). inst.Call d) call → Finds HasInst operation_in (operation_read texts own op.Call) a g x → y ≡ cond (is_broken g.reader.walk) None x
    → ReadsLine texts defined own op.Call a g (record { name = name; instruction = y })
call_line texts own defined void a b c g returns name result f parts call x y returned void_is named lasts result_is same call_is made found is =
    let kept = unless_broken (operation_read texts own op.Call) a g x y found is in
    let later = name_stays name ((result_by texts own void).read b.reader.walk).0 c.reader.walk g.reader.walk lasts named.kept in
    let table_b = same_table a.growing b.growing (goes_takes a b returned.takes).grows in
    record {
      reads = kept.0;
      none = kept.1;
      defines = kept_so (λ i. result_of i ≡ ids_of defined name) (is_broken g.reader.walk) x y is
          (λ unbroken. made_so (λ i. result_of i ≡ ids_of defined name) call x made
          (λ d e. ap option_to_list (result_so f result parts d same (sym call_is ∙ e) ∙ result_is) ∙ ids_so texts own defined void b.reader.walk g.reader.walk name later unbroken));
      name = λ k n.
          let void_so = void_is ∙ ap is_void (ap (λ (t : Types). tree_at t returns) table_b ∙ returned.tree_is k n) in
          let at : c.reader.walk ≡ ((result_by texts own void).read b.reader.walk).1 = ap (λ (x : ModuleReader). x.reader.walk) named.rest in
          subst (λ (p : Option m.LocalName × Walk). IsNameOf name p.0 p.1) (λ j. (result_by texts own (void_so j)).read (returned.walk k n j))
          (subst (λ (v : Walk). IsNameOf name ((result_by texts own void).read b.reader.walk).0 v) at named.kept);
    }
