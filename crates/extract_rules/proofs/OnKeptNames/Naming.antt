-- The names in kept definitions are those in the constants that are marked for them.
use Rattle.std.proofs.Common.{◌≡◌, ℕ, zero, suc, ◌+◌, Bool, true, false, ◌||◌, List, [], ◌∷◌, ◌++◌, flat_map, filter, map, length, take, Option, Some, None, Result, Ok, Err, refl, sym, ap, ap₂, ◌∙◌, subst, cond, slice_get, arith, append-nil, if◌then◌else◌}
use Rattle.std.specs.Prelude.{OnOk}
use Rattle.std.specs.Option.{option_map, option_map_or}
use Rattle.std.proofs.lemmas.Option.{same_Some}
use Rattle.std.proofs.lemmas.List.Concat.{flat_map-append}
use Rattle.type_table.specs.Tree.{Tree}
use Rattle.type_table.specs.Types.{trees}
use Rattle.module_arena.specs.declared.constant.Const as the_const
use Rattle.module_arena.specs.declared.constant.Const.TheVariants as const
use Rattle.module_arena.specs.declared.entry.Block as the_block
use Rattle.module_arena.specs.declared.entry.Body as the_body
use Rattle.module_arena.specs.declared.entry.Function as the_function
use Rattle.module_arena.specs.declared.entry.GlobalId.{GlobalId}
use Rattle.module_arena.specs.declared.entry.Variable as the_variable
use Rattle.module_arena.specs.declared.instruction.Case as the_case
use Rattle.module_arena.specs.declared.instruction.Ending as the_ending
use Rattle.module_arena.specs.declared.instruction.Ending.TheVariants as ending
use Rattle.module_arena.specs.declared.instruction.Incoming as the_incoming
use Rattle.module_arena.specs.declared.instruction.Inst as the_inst
use Rattle.module_arena.specs.declared.instruction.Inst.TheVariants as inst
use Rattle.module_arena.specs.declared.instruction.Operand as the_operand
use Rattle.module_arena.specs.declared.instruction.Value as the_value
use Rattle.module_arena.specs.declared.instruction.Value.TheVariants as value
use Rattle.module_arena.specs.Lists.{Lists}
use Rattle.module_arena.specs.Module.{Bytes, Constant, LocalName}
use Rattle.module_arena.specs.UsedNames.{names_in_constant, names_in_value, names_in_operand, names_in_incoming, names_in_instruction, names_in_case, names_in_ending, names_in_block, names_in_variable, names_in_function}
use Rattle.module_arena.specs.View.{module_of, constant_at, constants_of, local_view, value_view, operand_view, incoming_view, case_view, inst_view, ending_view, block_view, body_view, variable_view, function_view}
use Rattle.module_arena.proofs.ModuleOf.{length-constants_of}
use Rattle.extract_rules.specs.declared.flags.EntryFlags.{EntryFlags}
use Rattle.extract_rules.specs.declared.selection.Selection.{Selection}
use Rattle.extract_rules.specs.Extracted.{kept_names}
use Rattle.extract_rules.specs.Flags.{AreKept}
use Rattle.extract_rules.specs.KeptNames.Marks.{AreUnmarked, IsAmongEach, Marks, MarksAll, in_const, in_value, in_operand, in_variable, in_inst, in_ending, in_block, in_function, marked_names, own_names, picked}
use Rattle.extract_rules.specs.Selected.{is_among, keeps_variable, keeps_function}
use Rattle.extract_rules.proofs.OnKeptNames.Marking.{both_marked}

pub on_ok : {A E : Type 0} (r : Result A E) (P : Type 0) → P → OnOk r P
on_ok (Ok x) P p = p
on_ok (Err e) P p = tt

pub ok_follows : {A E : Type 0} (r : Result A E) (P Q : Type 0) → (P → Q) → OnOk r P → OnOk r Q
ok_follows (Ok x) P Q f p = f p
ok_follows (Err e) P Q f p = tt

pub own_none : (a : Lists) (c : the_const.Const) → ((g : GlobalId) → c ≡ const.Address g → ⊥) → own_names a c ≡ []
own_none a (const.Address g) bad = absurd (bad g refl)
own_none a (const.Integer number) bad = refl
own_none a (const.Truth truth) bad = refl
own_none a const.Null bad = refl
own_none a const.Undef bad = refl
own_none a const.Poison bad = refl
own_none a const.ZeroInitializer bad = refl
own_none a (const.ByteString bytes) bad = refl
own_none a (const.Aggregate round elements) bad = refl
own_none a (const.ElementAddress flags address) bad = refl
own_none a (const.Cast opcode operand to) bad = refl
own_none a (const.Binary opcode flags pair) bad = refl

-- ---- nothing is marked

unmarked_more : (cs : List Constant) (marks : List Bool) → marked_names cs (marks ++ false ∷ []) ≡ marked_names cs marks
unmarked_more [] marks = refl
unmarked_more (c ∷ []) [] = refl
unmarked_more (c ∷ d ∷ cs) [] = refl
unmarked_more (c ∷ cs) (b ∷ marks) = ap (λ l. (if b then names_in_constant c else []) ++ l) (unmarked_more cs marks)

pub one_unmarked : (count : ℕ) (old new : List Bool) → new ≡ old ++ false ∷ [] → AreUnmarked count old → AreUnmarked (count + 1) new
one_unmarked count old new pushed u = record {
  sized = let s = u.sized in ap length pushed ∙ longer old ∙ ap (λ n. n + 1) s;
  none = λ cs name. ap (λ l. is_among (marked_names cs l) name) pushed ∙ ap (λ l. is_among l name) (unmarked_more cs old) ∙ u.none cs name;
}
  where
    longer : (bs : List Bool) → length (bs ++ false ∷ []) ≡ length bs + 1
    longer [] = omega arith
    longer (b ∷ bs) = let r = longer bs in omega (arith, r)

-- ---- elements that are picked

picked_more : {A : Type 0} (bs : List Bool) (xs : List A) (k : ℕ) (b : Bool) (x : A) → slice_get bs k ≡ Some b → slice_get xs k ≡ Some x → picked (take (k + 1) bs) (take (k + 1) xs) ≡ picked (take k bs) (take k xs) ++ (if b then x ∷ [] else [])
picked_more {A = A} bs xs k b x hb hx = let e : k + 1 ≡ suc k = omega arith in ap₂ picked (ap (λ n. take n bs) e) (ap (λ n. take n xs) e) ∙ go bs xs k hb hx
  where
    go : (cs : List Bool) (ys : List A) (j : ℕ) → slice_get cs j ≡ Some b → slice_get ys j ≡ Some x → picked (take (suc j) cs) (take (suc j) ys) ≡ picked (take j cs) (take j ys) ++ (if b then x ∷ [] else [])
    go [] ys j h k = cc
    go (c ∷ cs) [] j h k = cc
    go (c ∷ cs) (y ∷ ys) zero h k = ap₂ (λ d z. if d then z ∷ [] else []) (same_Some c b h) (same_Some y x k)
    go (c ∷ cs) (y ∷ ys) (suc j) h k = by c (go cs ys j h k)
      where
        by : (d : Bool) → picked (take (suc j) cs) (take (suc j) ys) ≡ picked (take j cs) (take j ys) ++ (if b then x ∷ [] else [])
            → (if d then y ∷ picked (take (suc j) cs) (take (suc j) ys) else picked (take (suc j) cs) (take (suc j) ys)) ≡ (if d then y ∷ picked (take j cs) (take j ys) else picked (take j cs) (take j ys)) ++ (if b then x ∷ [] else [])
        by true e = ap (λ l. y ∷ l) e
        by false e = e

pub picked_marked : {A : Type 0} (f : List Constant → A → List Bytes) (bs : List Bool) (xs : List A) (k : ℕ) (b : Bool) (x : A) (old mid new : List Bool) → slice_get bs k ≡ Some b → slice_get xs k ≡ Some x
    → MarksAll old (λ cs. flat_map (f cs) (picked (take k bs) (take k xs))) mid → MarksAll mid (λ cs. (if b then f cs x else [])) new → MarksAll old (λ cs. flat_map (f cs) (picked (take (k + 1) bs) (take (k + 1) xs))) new
picked_marked f bs xs k b x old mid new hb hx so_far one cs le =
    subst (λ (zs : List Bytes). Marks cs old zs new) (sym (ap (flat_map (f cs)) (picked_more bs xs k b x hb hx) ∙ flat_map-append (f cs) (picked (take k bs) (take k xs)) (if b then x ∷ [] else []) ∙ ap (λ l. flat_map (f cs) (picked (take k bs) (take k xs)) ++ l) (by b)))
    (both_marked old mid new (λ ds. flat_map (f ds) (picked (take k bs) (take k xs))) (λ ds. (if b then f ds x else [])) so_far one cs le)
  where
    by : (d : Bool) → flat_map (f cs) (if d then x ∷ [] else []) ≡ (if d then f cs x else [])
    by true = append-nil (f cs x)
    by false = refl

picked_filter : {A B : Type 0} (view : A → B) (p : B → Bool) (g : B → List Bytes) (h : A → List Bytes) → ((x : A) → h x ≡ g (view x)) → (xs : List A) → flat_map h (picked (map p (map view xs)) xs) ≡ flat_map g (filter p (map view xs))
picked_filter view p g h same [] = refl
picked_filter view p g h same (x ∷ xs) = go (p (view x)) (picked_filter view p g h same xs)
  where
    go : (b : Bool) → flat_map h (picked (map p (map view xs)) xs) ≡ flat_map g (filter p (map view xs)) → flat_map h (if b then x ∷ picked (map p (map view xs)) xs else picked (map p (map view xs)) xs) ≡ flat_map g (cond b (view x ∷ filter p (map view xs)) (filter p (map view xs)))
    go true e = ap₂ (λ l m. l ++ m) (same x) e
    go false e = e

-- ---- what is written in an arena is what its module writes

gathered_same : {A B : Type 0} (view : A → B) (g : B → List Bytes) (h : A → List Bytes) → ((x : A) → h x ≡ g (view x)) → (xs : List A) → flat_map h xs ≡ flat_map g (map view xs)
gathered_same view g h same [] = refl
gathered_same view g h same (x ∷ xs) = ap₂ (λ l m. l ++ m) (same x) (gathered_same view g h same xs)

module _ (ts : List Tree) (cs : List Constant) (values blocks : List LocalName) where
  value_same : (v : the_value.Value) → in_value cs v ≡ names_in_value (value_view ts cs values blocks v)
  value_same (value.Known id) = refl
  value_same (value.Local id) = refl

  operand_same : (o : the_operand.Operand) → in_operand cs o ≡ names_in_operand (operand_view ts cs values blocks o)
  operand_same o = value_same o.value

  incoming_same : (i : the_incoming.Incoming) → in_value cs i.value ≡ names_in_incoming (incoming_view ts cs values blocks i)
  incoming_same i = value_same i.value

  case_same : (x : the_case.Case) → in_const cs x.value ≡ names_in_case (case_view ts cs values blocks x)
  case_same x = refl

  count_same : (o : Option the_operand.Operand) → option_map_or (in_operand cs) o [] ≡ option_map_or names_in_operand (option_map (operand_view ts cs values blocks) o) []
  count_same None = refl
  count_same (Some o) = operand_same o

  inst_same : (i : the_inst.Inst) → in_inst cs i ≡ names_in_instruction (inst_view ts cs values blocks i)
  inst_same (inst.Binary opcode flags result left right) = ap₂ (λ l m. l ++ m) (operand_same left) (value_same right)
  inst_same (inst.Compare flags predicate result left right) = ap₂ (λ l m. l ++ m) (operand_same left) (value_same right)
  inst_same (inst.Convert opcode flags result operand to) = operand_same operand
  inst_same (inst.Select result choice) = ap₂ (λ l m. l ++ m) (operand_same choice.condition) (ap₂ (λ l m. l ++ m) (operand_same choice.first) (operand_same choice.second))
  inst_same (inst.Freeze result operand) = operand_same operand
  inst_same (inst.Phi result ty incoming) = gathered_same (incoming_view ts cs values blocks) names_in_incoming (λ i. in_value cs i.value) incoming_same incoming
  inst_same (inst.Load flags result ty address alignment) = operand_same address
  inst_same (inst.Store flags stored address alignment) = ap₂ (λ l m. l ++ m) (operand_same stored) (operand_same address)
  inst_same (inst.Alloca result ty count alignment) = count_same count
  inst_same (inst.GetElementPtr flags result source base indices) = ap₂ (λ l m. l ++ m) (operand_same base) (gathered_same (operand_view ts cs values blocks) names_in_operand (in_operand cs) operand_same indices)
  inst_same (inst.Call call) = ap₂ (λ l m. l ++ m) (value_same call.callee) (gathered_same (operand_view ts cs values blocks) names_in_operand (in_operand cs) operand_same call.arguments)
  inst_same (inst.ExtractValue result aggregate indices) = operand_same aggregate
  inst_same (inst.InsertValue result insertion) = ap₂ (λ l m. l ++ m) (operand_same insertion.aggregate) (operand_same insertion.part)

  ending_same : (e : the_ending.Ending) → in_ending cs e ≡ names_in_ending (ending_view ts cs values blocks e)
  ending_same ending.ReturnVoid = refl
  ending_same (ending.Return operand) = operand_same operand
  ending_same (ending.Jump target) = refl
  ending_same (ending.Branch condition then_to else_to) = operand_same condition
  ending_same (ending.Switch operand otherwise cases) = ap₂ (λ l m. l ++ m) (operand_same operand) (gathered_same (case_view ts cs values blocks) names_in_case (λ x. in_const cs x.value) case_same cases)
  ending_same ending.Unreachable = refl

  block_same : (b : the_block.Block) → in_block cs b ≡ names_in_block (block_view ts cs values blocks b)
  block_same b = ap₂ (λ l m. l ++ m) (gathered_same (inst_view ts cs values blocks) names_in_instruction (in_inst cs) inst_same b.instructions) (ending_same b.end)

function_same : (ts : List Tree) (cs : List Constant) (f : the_function.Function) → in_function cs f ≡ names_in_function (function_view ts cs f)
function_same ts cs f = go f.body
  where
    go : (o : Option the_body.Body) → option_map_or (λ b. flat_map (in_block cs) b.blocks) o [] ≡ option_map_or (flat_map names_in_block) (option_map (body_view ts cs (map (λ p. local_view p.name) f.parameters)) o) []
    go None = refl
    go (Some b) =
        let values = map (λ p. local_view p.name) f.parameters ++ map local_view b.results in
        let blocks = map (λ block. local_view block.name) b.blocks in
        gathered_same (block_view ts cs values blocks) names_in_block (in_block cs) (block_same ts cs values blocks) b.blocks

variable_same : (ts : List Tree) (cs : List Constant) (v : the_variable.Variable) → in_variable cs v ≡ names_in_variable (variable_view ts cs v)
variable_same ts cs v = go v.initialiser
  where
    go : (o : Option ℕ) → option_map_or (in_const cs) o [] ≡ option_map_or names_in_constant (option_map (constant_at cs) o) []
    go None = refl
    go (Some id) = refl

-- ---- the whole

module _ (a : Lists) (s : Selection) (flags : EntryFlags) (kept : AreKept (module_of a) s flags) where
  variables_same : flat_map (in_variable (constants_of a)) (picked flags.variables a.variables) ≡ flat_map names_in_variable (filter (keeps_variable (module_of a) s) (module_of a).variables)
  unfolding module_of
  variables_same =
      ap (λ ks. flat_map (in_variable (constants_of a)) (picked ks a.variables)) kept.variables
      ∙ picked_filter (variable_view (trees a.table) (constants_of a)) (keeps_variable (module_of a) s) names_in_variable (in_variable (constants_of a)) (variable_same (trees a.table) (constants_of a)) a.variables

  functions_same : flat_map (in_function (constants_of a)) (picked flags.functions a.functions) ≡ flat_map names_in_function (filter (keeps_function (module_of a) s) (module_of a).functions)
  unfolding module_of
  functions_same =
      ap (λ ks. flat_map (in_function (constants_of a)) (picked ks a.functions)) kept.functions
      ∙ picked_filter (function_view (trees a.table) (constants_of a)) (keeps_function (module_of a) s) names_in_function (in_function (constants_of a)) (function_same (trees a.table) (constants_of a)) a.functions

pub kept_named : (a : Lists) (s : Selection) (flags : EntryFlags) (marks one two : List Bool) (old new : List Bytes) → AreUnmarked (length a.constants) marks → AreKept (module_of a) s flags
    → MarksAll marks (λ cs. flat_map (in_variable cs) (picked flags.variables a.variables)) one → MarksAll one (λ cs. flat_map (in_function cs) (picked flags.functions a.functions)) two
    → IsAmongEach new old (marked_names (constants_of a) two) → IsAmongEach new old (kept_names (module_of a) s)
kept_named a s flags marks one two old new none kept first second each name =
    each name ∙ ap (λ b. is_among old name || b)
    (all.among name ∙ ap (λ b. b || is_among more name) (none.none (constants_of a) name) ∙ ap (λ l. is_among l name) (ap₂ (λ l m. l ++ m) (variables_same a s flags kept) (functions_same a s flags kept)))
  where
    more : List Bytes
    more = flat_map (in_variable (constants_of a)) (picked flags.variables a.variables) ++ flat_map (in_function (constants_of a)) (picked flags.functions a.functions)

    all : Marks (constants_of a) marks more two
    all =
        let long = length-constants_of a in
        let sized = none.sized in
        both_marked marks one two (λ cs. flat_map (in_variable cs) (picked flags.variables a.variables)) (λ cs. flat_map (in_function cs) (picked flags.functions a.functions)) first second (constants_of a) (omega (arith, long, sized))

pub none_unmarked : (marks : List Bool) → marks ≡ [] → AreUnmarked 0 marks
none_unmarked marks e = record { sized = ap length e; none = λ cs name. ap (λ l. is_among (marked_names cs l) name) e ∙ ap (λ l. is_among l name) (nothing cs) }
  where
    nothing : (cs : List Constant) → marked_names cs [] ≡ []
    nothing [] = refl
    nothing (c ∷ cs) = refl

-- flags that are told by the same names
pub flags_same : {A : Type 0} (key : A → Bytes) (xs : List A) (names more : List Bytes) (flags : List Bool) → flags ≡ map (λ x. is_among names (key x)) xs → ((n : Bytes) → is_among names n ≡ is_among more n) → flags ≡ map (λ x. is_among more (key x)) xs
flags_same {A = A} key xs names more flags e same = e ∙ go xs
  where
    go : (ys : List A) → map (λ x. is_among names (key x)) ys ≡ map (λ x. is_among more (key x)) ys
    go [] = refl
    go (y ∷ ys) = ap₂ (λ b bs. b ∷ bs) (same (key y)) (go ys)
