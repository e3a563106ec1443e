-- A module's block that was read whole.
use Rattle.std.proofs.Common.{◌≡◌, ◌⊎◌, ◌<◌, ◌≤◌, ℕ, Bool, true, false, cond, List, length, map, drop, All, Option, Some, None, is_some, nat_eq, nat_lt, inl, inr, refl, sym, ap, subst, ◌∙◌, arith}
use Rattle.std.specs.Prelude.{Ok, Err}
use Rattle.std.proofs.lemmas.Bool.{ltb-false}
use Rattle.bit_tree.specs.Pieces.{Piece}
use Rattle.type_table.specs.declared.ir_type.IrType.TheVariants as type
use Rattle.type_table.specs.Types.{Types, structs, trees, with_type}
use Rattle.module_arena.specs.declared.entry.Body as the_body
use Rattle.module_arena.specs.declared.entry.Function as the_function
use Rattle.module_arena.specs.Changes.{alias_in, function_in, variable_in}
use Rattle.module_arena.specs.Known.{IsGood, KnowsAlias, KnowsBody, KnowsFunction, KnowsVariable, counts}
use Rattle.module_arena.specs.Lists.{Lists, name_at}
use Rattle.module_arena.specs.Module as m
use Rattle.module_arena.specs.View.{alias_view, body_view, constants_of, type_at, variable_view}
use Rattle.record_table.specs.Faults.{Answer, Records, BadRecord, no_more}
use Rattle.record_table.specs.Fields.{Texts}
use Rattle.record_table.specs.Records as records
use Rattle.record_table.specs.Records.{at_first, ended, first_due, module_from}
use Rattle.record_read.specs.declared.fault.BitcodeFault.{BitcodeFault}
use Rattle.record_read.specs.Faults.{Answers}
use Rattle.type_read.specs.declared.arena.module_reader.ModuleReader.{ModuleReader}
use Rattle.type_read.proofs.OnArena.Kept.{same_table}
use Rattle.bitcode_read.specs.declared.head.ahead.ModuleAhead.{ModuleAhead}
use Rattle.bitcode_read.specs.Ahead.Bodies.{names_given}
use Rattle.bitcode_read.specs.Holding.Holding.{AreUndefined, AreUnset, AreUntargeted, HasConstants, HasTargets, Suits, defined_by, initialised_by, targeted_by}
use Rattle.record_law.proofs.OnFormed.Good.{AreTexts}
use Rattle.bitcode_read.specs.declared.sofar.Sofar.{Sofar}
use Rattle.bitcode_read.specs.Sofar.{AreDeclared, AreRead, AreSettable, IsDefined, IsEarly, IsLate, IsSofar, IsWhole, head_of, parameter_names}
use Rattle.bitcode_read.proofs.Ended.{all_declared, whole_so_far}
use Rattle.record_read.specs.Order.Due.{due_at}
use Rattle.bitcode_read.proofs.Functions.{due_same, functions_are}
use Rattle.bitcode_read.proofs.Opened.{refused_so}
use Rattle.bitcode_read.proofs.Growing.{always_now, arena_is, name_same}
use Rattle.bitcode_read.proofs.Types.{same_structs}
use Rattle.bitcode_read.proofs.Views.{aliases_agree, types_agree, variables_agree}

module _ (texts : Texts) (are : AreTexts texts) (all : Records) (known : ModuleAhead) (n : ModuleReader) (b : Sofar) (s : records.Sofar) (h : IsSofar texts all known n b s no_more) (l : IsLate n b s no_more) (at : ℕ)
    (read : module_from (at_first texts at all) all ≡ Ok s) (none : first_due s.functions ≡ None) where
  base_is : l.base ≡ l.a
  base_is = l.declares

  -- the arena has the entries that were read
  entries_are : n.growing.arena ≡ record l.a { table = l.begun.arena.table; constants = n.growing.arena.constants }
  entries_are = arena_is l.base l.begun n.growing l.over l.grows ∙ ap (λ (x : Lists). record x { table = l.begun.arena.table; constants = n.growing.arena.constants }) base_is

  D : AreDeclared l.base n.globals s.k
  D = subst (λ (x : Lists). AreDeclared x n.globals s.k) (sym base_is) (all_declared texts all s n.globals l.a (whole_so_far texts are all at s read) h.counted l.called)

  table_is : n.growing.arena.table ≡ with_type (with_type l.base.table type.Ptr) (type.Int 1)
  table_is = same_table l.begun n.growing l.grows ∙ ap (λ (x : Lists). x.table) l.over.arena

  agree : (id : ℕ) → id < length l.base.table.types → type_at (trees n.growing.arena.table) id ≡ type_at (trees l.base.table) id
  agree id lt = ap (λ (t : Types). type_at (trees t) id) table_is ∙ types_agree l.base.table id lt

  good_a : IsGood l.a
  good_a = subst (λ (x : Lists). IsGood x) base_is l.good

  types_a : length l.a.table.types ≡ length l.base.table.types
  types_a = ap (λ (x : Lists). length x.table.types) (sym base_is)

  -- what holds of the functions' bodies now
  bodies_now : (body : the_body.Body) (f : the_function.Function) (r : Bool × m.Function) → IsDefined l.base n.growing (AreDeclared l.base n.globals s.k) f body r
      → KnowsBody (length n.growing.arena.table.types) (length n.growing.arena.constants) (length f.parameters) body
      × (record (head_of l.base f) { body = Some (body_view (trees n.growing.arena.table) (constants_of n.growing.arena) (parameter_names f) body) } ≡ r.1)
  bodies_now body f r d = (
    always_now n.growing (λ a. KnowsBody (length a.table.types) (length a.constants) (length f.parameters) body) d.known,
    always_now n.growing (λ a. record (head_of l.base f) { body = Some (body_view (trees a.table) (constants_of a) (parameter_names f) body) } ≡ r.1) (d.is D),
  )

  known_functions : All (KnowsFunction (length l.base.table.types) (length l.base.constants)) l.a.functions
  known_functions = subst (λ (x : Lists). All (KnowsFunction (length l.base.table.types) (length l.base.constants)) x.functions) base_is l.good.functions

  functions_read : Suits (length n.growing.arena.table.types) (length n.growing.arena.constants) l.a.functions b.defined.items b.bodies.items × (map (function_in n.growing.arena) (defined_by l.a.functions b.defined.items b.bodies.items) ≡ map (λ (r : Bool × m.Function). r.1) s.functions)
  functions_read =
      functions_are l.base n.growing (AreDeclared l.base n.globals s.k) l.later n.growing.arena D bodies_now (length l.base.table.types) agree l.a.functions b.defined.items b.bodies.items (map names_given (drop (length b.bodies.items) b.ahead.items)) s.functions
      l.functions none l.undefined known_functions

  pub settable : AreSettable n.growing.arena b
  settable = record {
    unset = subst (λ (x : Lists). AreUnset x) (sym entries_are) l.unset;
    untargeted = subst (λ (x : Lists). AreUntargeted x) (sym entries_are) l.untargeted;
    undefined = subst (λ (x : Lists). AreUndefined x) (sym entries_are) l.undefined;
    constants = always_now n.growing (λ a. HasConstants a b.initialisers.items) l.variables.there;
    targets = always_now n.growing (λ a. HasTargets a b.targets.items) l.aliases.there;
    suits = subst (λ (fs : List the_function.Function). Suits (length n.growing.arena.table.types) (length n.growing.arena.constants) fs b.defined.items b.bodies.items) (sym (ap (λ (x : Lists). x.functions) entries_are)) functions_read.0;
  }

  variables_read : map (variable_in n.growing.arena) (initialised_by n.growing.arena.variables b.initialisers.items) ≡ s.variables
  variables_read =
      ap (λ (x : Lists). map (variable_in n.growing.arena) (initialised_by x.variables b.initialisers.items)) entries_are
      ∙ (variables_agree (trees n.growing.arena.table) (trees l.base.table) (length l.base.table.types) agree (constants_of n.growing.arena) (length l.a.constants) l.a.variables b.initialisers.items
      (subst (λ k. All (KnowsVariable k (length l.a.constants)) l.a.variables) types_a good_a.variables)
      ∙ always_now n.growing (λ a. map (variable_view (trees l.base.table) (constants_of a)) (initialised_by l.a.variables b.initialisers.items) ≡ s.variables) (l.variables.are D))

  names_same : name_at n.growing.arena ≡ name_at l.base
  names_same = λ j id. name_same l.base l.begun n.growing l.over l.grows id j

  aliases_read : map (alias_in n.growing.arena) (targeted_by n.growing.arena.aliases b.targets.items) ≡ s.aliases
  aliases_read =
      ap (λ (x : Lists). map (alias_in n.growing.arena) (targeted_by x.aliases b.targets.items)) entries_are
      ∙ (aliases_agree (trees n.growing.arena.table) (trees l.base.table) (length l.base.table.types) agree (name_at n.growing.arena) (counts l.a) l.a.aliases b.targets.items
      (subst (λ k. All (KnowsAlias k (counts l.a)) l.a.aliases) types_a good_a.aliases)
      ∙ (ap (λ named. map (alias_view (trees l.base.table) named) (targeted_by l.a.aliases b.targets.items)) names_same ∙ l.aliases.are D))

  pub are_read : AreRead n.growing.arena b s
  are_read = record {
    source = h.source;
    layout = h.layout;
    triple = h.triple;
    structs_are = ap structs table_is ∙ (same_structs l.base.table l.good_types ∙ sym l.structs_are);
    variables = variables_read;
    aliases = aliases_read;
    functions = ap (λ (x : Lists). map (function_in n.growing.arena) (defined_by x.functions b.defined.items b.bodies.items)) entries_are ∙ functions_read.1;
  }

-- ---- what the end answers

ended_late : (s t : records.Sofar) → ended s ≡ Ok t → (5 ≤ s.last) × (first_due s.functions ≡ None)
ended_late s t e = by (nat_eq s.last 0) (nat_lt s.last 5) (first_due s.functions) refl refl e
  where
    by : (a c : Bool) (o : Option m.Function) → nat_lt s.last 5 ≡ c → first_due s.functions ≡ o
        → cond {A = Answer records.Sofar} a (Err (BadRecord 8 s.at 5)) (cond {A = Answer records.Sofar} c (Err (BadRecord 17 s.at 5)) (cond {A = Answer records.Sofar} (is_some o) (Err (BadRecord 12 s.at 5)) (Ok s))) ≡ Ok t
        → (5 ≤ s.last) × (first_due s.functions ≡ None)
    by true c o ec eo e = absurd (cc)
    by false true o ec eo e = absurd (cc)
    by false false (Some f) ec eo e = absurd (cc)
    by false false None ec eo e = (ltb-false s.last 5 ec, eo)

pub end_answers : (texts : Texts) (are : AreTexts texts) (all : Records) (known : ModuleAhead) (n : ModuleReader) (others : List Piece) (b : Sofar) (s : records.Sofar) (at : ℕ) → IsSofar texts all known n b s no_more
    → module_from (at_first texts at all) all ≡ ended s → n.reader.left ≡ others → n.reader.at ≡ s.at → Answers {A = records.Sofar} {B = Unit {0}} (λ done t. t ≡ s) (ended s) (Ok tt)
    → Answers {A = records.Sofar} {B = Sofar} (IsWhole n others) (module_from (at_first texts at all) all) (Ok b)
end_answers texts are all known n others b s at h from left place told = subst (λ (a : Answer records.Sofar). Answers {A = records.Sofar} {B = Sofar} (IsWhole n others) a (Ok b)) (sym from) (by (ended s) refl told)
  where
    by : (a : Answer records.Sofar) → ended s ≡ a → Answers {A = records.Sofar} {B = Unit {0}} (λ done t. t ≡ s) a (Ok tt) → Answers {A = records.Sofar} {B = Sofar} (IsWhole n others) a (Ok b)
    by (Err fault) e k = absurd k
    by (Ok t) e k =
        let end : ended s ≡ Ok s = e ∙ ap (λ (u : records.Sofar). Ok u) k in
        let after = ended_late s s end in
        let l : IsLate n b s no_more = late_of h.part after.0 in
        let read : module_from (at_first texts at all) all ≡ Ok s = from ∙ end in
        subst (λ (u : records.Sofar). IsWhole n others b u) (sym k)
        (record { settable = settable texts are all known n b s h l at read after.1; are = are_read texts are all known n b s h l at read after.1; left = left; at = place })
      where
        late_of : IsEarly texts all known n b s no_more ⊎ IsLate n b s no_more → 5 ≤ s.last → IsLate n b s no_more
        late_of (inr l) late = l
        late_of (inl e) late = let early = e.early in absurd (omega (arith, early, late))

-- a refusal of the end
pub end_refused : (texts : Texts) (all : Records) (known : ModuleAhead) (n : ModuleReader) (others : List Piece) (b : Sofar) (s : records.Sofar) (at : ℕ) → module_from (at_first texts at all) all ≡ ended s → (given : BitcodeFault)
    → Answers {A = records.Sofar} {B = Unit {0}} (λ done t. t ≡ s) (ended s) (Err given) → Answers {A = records.Sofar} {B = Sofar} (IsWhole n others) (module_from (at_first texts at all) all) (Err given)
end_refused texts all known n others b s at from given told =
    subst (λ (a : Answer records.Sofar). Answers {A = records.Sofar} {B = Sofar} (IsWhole n others) a (Err given)) (sym from) (refused_so (λ done t. t ≡ s) (IsWhole n others) (ended s) given told)

-- whether a body is due
pub due_told : (texts : Texts) (all : Records) (known : ModuleAhead) (n : ModuleReader) (b : Sofar) (s : records.Sofar) → IsSofar texts all known n b s no_more → is_some (first_due s.functions) ≡ is_some (due_at b.defined.items (length b.bodies.items) 0)
due_told texts all known n b s h = by h.part
  where
    by : IsEarly texts all known n b s no_more ⊎ IsLate n b s no_more → is_some (first_due s.functions) ≡ is_some (due_at b.defined.items (length b.bodies.items) 0)
    by (inl e) = ap (λ (fs : List (Bool × m.Function)). is_some (first_due fs)) e.no_functions ∙ sym (ap (λ (ds : List Bool). is_some (due_at ds (length b.bodies.items) 0)) e.none_defined)
    by (inr l) = due_same l.base n.growing (AreDeclared l.base n.globals s.k) l.later l.a.functions b.defined.items b.bodies.items (map names_given (drop (length b.bodies.items) b.ahead.items)) s.functions 0 l.functions
