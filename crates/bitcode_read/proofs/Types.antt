-- The block of types: what was read behind it.
use Rattle.std.proofs.Common.{◌≡◌, ◌⊎◌, ◌<◌, ◌+◌, ℕ, Bool, true, false, cond, List, [], ◌∷◌, ◌++◌, length, map, drop, take, All, Option, None, nat_eq, nat_le, nat_lt, inl, inr, refl, sym, ap, subst, ◌∙◌, arith, append_assoc}
use Rattle.std.specs.Prelude.{Ok, option_to_list}
use Rattle.std.proofs.lemmas.List.{length_push}
use Rattle.std.proofs.lemmas.Bool.{and_parts, eqb-true, ltb-true}
use Rattle.std.proofs.lemmas.List.Elements.{All-nil, All-weaker}
use Rattle.type_table.specs.declared.ir_type.IrType.TheVariants as type
use Rattle.type_table.specs.Tree.{Tree}
use Rattle.type_table.specs.Types.{Types, KnowsBody, bodies, structs, trees, tree_of, names, with_type}
use Rattle.type_table.specs.Types as tables
use Rattle.type_table.proofs.Added.{length-trees, structs-with, trees-with, AllKnown-push}
use Rattle.module_arena.specs.declared.entry.Alias as the_alias
use Rattle.module_arena.specs.declared.entry.Function as the_function
use Rattle.module_arena.specs.declared.entry.GlobalId.{GlobalId}
use Rattle.module_arena.specs.declared.entry.Variable as the_variable
use Rattle.module_arena.specs.Known.{AreDistinct, HasGlobal, IsGood, counts}
use Rattle.module_arena.specs.Lists.{Lists, name_at}
use Rattle.module_arena.specs.Module as m
use Rattle.module_arena.specs.View.{alias_view, constants_of, variable_view}
use Rattle.module_arena.specs.declared.entry.Body as the_body
use Rattle.record_table.specs.Faults.{Answer, ◌>>=◌, Records, a_block, misplaced}
use Rattle.record_table.specs.Fields.{Numbering, Texts}
use Rattle.record_table.specs.Records as records
use Rattle.record_table.specs.Records.{may_follow, types_block}
use Rattle.record_table.specs.TypeRecords.{Listed, listed, names_in}
use Rattle.record_read.specs.Reader.{Reader}
use Rattle.type_read.specs.declared.arena.module_reader.ModuleReader.{ModuleReader}
use Rattle.type_read.specs.Arena.Growing.{Growing, IsOver}
use Rattle.type_read.proofs.OnArena.Kept.{grows_self}
use Rattle.body_read.specs.declared.ahead.ahead.BodyAhead.{BodyAhead}
use Rattle.bitcode_read.specs.declared.head.ahead.ModuleAhead.{ModuleAhead}
use Rattle.bitcode_read.specs.Ahead.Bodies.{Foresees, names_given}
use Rattle.bitcode_read.specs.Ahead.Entries.{Declares}
use Rattle.record_law.proofs.OnFormed.Texts.{HoldsTexts}
use Rattle.record_law.proofs.OnFormed.Trees.{body_wider}
use Rattle.type_read.specs.declared.structs.StructNames.{StructNames}
use Rattle.type_read.specs.Listed.{AreGathered, AreNames, IsListed}
use Rattle.bitcode_read.specs.declared.sofar.Sofar.{Sofar}
use Rattle.bitcode_read.specs.Holding.Holding.{HasConstants, HasTargets, initialised_by, targeted_by}
use Rattle.bitcode_read.specs.Sofar.{AreDeclared, AreFunctions, IsEarly, IsLate, IsSofar, counts_due}
use Rattle.bitcode_read.proofs.Stays.{table_stays}
use Rattle.bitcode_read.proofs.StructNames.{good_name, names_good, none_bad}

take_front : {A : Type 0} (xs ys : List A) → take (length xs) (xs ++ ys) ≡ xs
take_front [] ys = take_none ys
  where
    take_none : {A : Type 0} (ys : List A) → take 0 ys ≡ []
    take_none [] = refl
    take_none (y ∷ ys) = refl
take_front (x ∷ xs) ys = ap (λ l. x ∷ l) (take_front xs ys)

-- the types that are listed come first
listed_first : (t : Types) → take (length t.types) (trees (with_type (with_type t type.Ptr) (type.Int 1))) ≡ trees t
listed_first t =
    let one = with_type t type.Ptr in
    ap (take (length t.types)) (trees-with one (type.Int 1))
    ∙ (ap (λ (ts : List Tree). take (length t.types) (ts ++ tree_of (names one) (trees one) (type.Int 1) ∷ [])) (trees-with t type.Ptr)
    ∙ (ap (take (length t.types)) (append_assoc (trees t) (tree_of (names t) (trees t) type.Ptr ∷ []) (tree_of (names one) (trees one) (type.Int 1) ∷ []))
    ∙ (ap (λ n. take n (trees t ++ (tree_of (names t) (trees t) type.Ptr ∷ [] ++ tree_of (names one) (trees one) (type.Int 1) ∷ []))) (sym (length-trees t))
    ∙ take_front (trees t) (tree_of (names t) (trees t) type.Ptr ∷ [] ++ tree_of (names one) (trees one) (type.Int 1) ∷ []))))

-- the type of addresses suits any table
ptr_good : (t : Types) → tables.IsGood t → tables.IsGood (with_type t type.Ptr)
ptr_good t good = record {
  few = good.few;
  known = AllKnown-push 0 (length t.structs) t.types type.Ptr good.known tt;
  known_bodies = subst (λ n. All (KnowsBody n) (bodies t)) (sym (length_push t.types type.Ptr)) (All-weaker (KnowsBody (length t.types)) (KnowsBody (length t.types + 1)) (λ b. body_wider (length t.types) b) (bodies t) good.known_bodies);
  distinct = good.distinct;
}

pub same_structs : (t : Types) → tables.IsGood t → structs (with_type (with_type t type.Ptr) (type.Int 1)) ≡ structs t
same_structs t good = structs-with (with_type t type.Ptr) (type.Int 1) (ptr_good t good) ∙ structs-with t type.Ptr good

module _ (texts : Texts) (all : Records) (known later : ModuleAhead) (old : ModuleReader) (b : Sofar) (s : records.Sofar) (inside behind : Records) (h : IsSofar texts all known old b s (a_block 17 inside behind)) (may : may_follow b.last 5 ≡ true) where
  may_here : may_follow s.last 5 ≡ true
  may_here = ap (λ n. may_follow n 5) h.last ∙ may

  pub early : IsEarly texts all known old b s (a_block 17 inside behind)
  early = by h.part
    where
      by : IsEarly texts all known old b s (a_block 17 inside behind) ⊎ IsLate old b s (a_block 17 inside behind) → IsEarly texts all known old b s (a_block 17 inside behind)
      by (inl e) = e
      by (inr l) = let late = l.late in let less : s.last < 5 = ltb-true s.last 5 (and_parts (nat_le 1 s.last) (nat_lt s.last 5) may_here).1 in absurd (omega (arith, late, less))

  -- the block is of types
  pub block_is : records.block_in s 17 inside ≡ (listed s.texts s.at inside >>= λ l. Ok (record s { at = l.at; last = 5; k = record s.k { types = trees l.types; structs = structs l.types } }))
  block_is = ap (λ c. cond {A = Answer records.Sofar} c (types_block s inside) (cond {A = Answer records.Sofar} false (records.body_block s inside (records.first_due s.functions)) (misplaced 17 s.at))) may_here

  module _ (l : Listed) (found : StructNames) (plain base : Lists) (holds : HoldsTexts texts) (read : listed texts s.at inside ≡ Ok l) (names_are : AreNames texts inside found) (is : IsListed plain found (names_in texts inside) l) (heads : List BodyAhead)
      (declares : Declares texts (length plain.table.types) base (map names_given heads) plain all) (foresees : (k : Numbering) → k.types ≡ trees plain.table → Foresees texts k (length plain.table.types) [] heads all)
      (good : IsGood base) (good_types : tables.IsGood base.table) (distinct : AreDistinct base) (growing : Growing) (over : IsOver base growing) (r : Reader) (b2 : Sofar) (ahead_is : b2.ahead.items ≡ heads) (last : 5 ≡ b2.last)
      (rest : b2 ≡ record b { ahead = b2.ahead; last = b2.last }) where
    abbrev k2 : Numbering
    k2 = record s.k { types = trees l.types; structs = structs l.types }

    table_is : plain.table ≡ l.types
    table_is = is.named (none_bad found.first_bad (names_in texts inside) names_are.first_bad (names_good texts holds good_name s.at inside l read))

    base_table : base.table ≡ l.types
    base_table = table_stays texts (length plain.table.types) base (map names_given heads) plain all declares ∙ table_is

    long : length plain.table.types ≡ length k2.types
    long = ap (λ (t : Types). length t.types) table_is ∙ sym (length-trees l.types)

    -- nothing was declared in front
    a_variables : plain.variables ≡ []
    a_variables = ap (λ (x : Lists). x.variables) is.rest

    a_functions : plain.functions ≡ []
    a_functions = ap (λ (x : Lists). x.functions) is.rest

    a_aliases : plain.aliases ≡ []
    a_aliases = ap (λ (x : Lists). x.aliases) is.rest

    abbrev made : records.Sofar
    made = record s { at = l.at; last = 5; k = record s.k { types = trees l.types; structs = structs l.types } }

    abbrev new : ModuleReader
    new = record old { reader = r; growing = growing }

    no_bodies_drop : drop (length b2.bodies.items) b2.ahead.items ≡ heads
    no_bodies_drop =
        let none : b2.bodies.items ≡ [] = ap (λ (x : Sofar). x.bodies.items) rest ∙ early.no_bodies in
        ap (λ (bs : List the_body.Body). drop (length bs) b2.ahead.items) none ∙ ahead_is

    late : IsLate new b2 made behind
    late = record {
      late = omega arith;
      alone = λ less. early.no_aliases;
      base = base;
      a = plain;
      begun = growing;
      over = over;
      grows = grows_self growing;
      good = good;
      good_types = good_types;
      distinct = distinct;
      types = ap trees (sym base_table);
      structs_are = ap structs (sym base_table);
      later = map names_given heads;
      declares = subst (λ n. Declares s.texts n base (map names_given heads) plain behind) long
          (subst (λ (t : Texts). Declares t (length plain.table.types) base (map names_given heads) plain behind) (sym h.texts_are) (early.declares (length plain.table.types) base plain (map names_given heads) declares));
      unset = subst (λ (vs : List the_variable.Variable). All (λ (v : the_variable.Variable). v.initialiser ≡ None) vs) (sym a_variables) (All-nil (λ (v : the_variable.Variable). v.initialiser ≡ None));
      untargeted = subst (λ (xs : List the_alias.Alias). All (λ (x : the_alias.Alias). x.target ≡ None) xs) (sym a_aliases) (All-nil (λ (x : the_alias.Alias). x.target ≡ None));
      undefined = subst (λ (fs : List the_function.Function). All (λ (f : the_function.Function). f.body ≡ None) fs) (sym a_functions) (All-nil (λ (f : the_function.Function). f.body ≡ None));
      called = record {
        variables = map_none (λ (v : the_variable.Variable). v.name) (λ (v : m.Variable). v.name) plain.variables s.variables a_variables early.no_variables;
        functions = map_none (λ (f : the_function.Function). f.name) (λ (f : Bool × m.Function). f.1.name) plain.functions s.functions a_functions early.no_functions;
        aliases = map_none (λ (x : the_alias.Alias). x.name) (λ (x : m.Alias). x.name) plain.aliases s.aliases a_aliases early.no_aliases;
      };
      foresees = subst (λ (xs : List BodyAhead). Foresees s.texts k2 (length k2.types) (counts_due s.functions) xs behind) (sym no_bodies_drop)
          (subst (λ (fs : List (Bool × m.Function)). Foresees s.texts k2 (length k2.types) (counts_due fs) heads behind) (sym early.no_functions)
          (subst (λ (t : Texts). Foresees t k2 (length k2.types) [] heads behind) (sym h.texts_are)
          (subst (λ n. Foresees texts k2 n [] heads behind) long (early.foresees k2 (length plain.table.types) heads (foresees k2 (ap trees (sym table_is)))))));
      variables = record {
        many = ap length (ap (λ (x : Sofar). x.initialisers.items) rest ∙ early.no_initialisers) ∙ sym (ap length a_variables);
        there = λ later on. subst (λ (os : List (Option ℕ)). HasConstants later.arena os) (sym (ap (λ (x : Sofar). x.initialisers.items) rest ∙ early.no_initialisers)) (All-nil (λ (o : Option ℕ). All (λ id. id < length later.arena.constants) (option_to_list o)));
        are = λ all_there. λ later on.
            (λ j. map (variable_view (trees base.table) (constants_of later.arena)) (initialised_by (a_variables j) ((ap (λ (x : Sofar). x.initialisers.items) rest ∙ early.no_initialisers) j))) ∙ sym early.no_variables;
      };
      aliases = record {
        many = ap length (ap (λ (x : Sofar). x.targets.items) rest ∙ early.no_targets) ∙ sym (ap length a_aliases);
        there = λ later on. subst (λ (os : List (Option GlobalId)). HasTargets later.arena os) (sym (ap (λ (x : Sofar). x.targets.items) rest ∙ early.no_targets)) (All-nil (λ (o : Option GlobalId). All (HasGlobal (counts later.arena)) (option_to_list o)));
        are = λ all_there. (λ j. map (alias_view (trees base.table) (name_at base)) (targeted_by (a_aliases j) ((ap (λ (x : Sofar). x.targets.items) rest ∙ early.no_targets) j))) ∙ sym early.no_aliases;
      };
      functions = functions_none;
    }
      where
        map_none : {A B C : Type 0} (f : A → C) (g : B → C) (xs : List A) (ys : List B) → xs ≡ [] → ys ≡ [] → map f xs ≡ map g ys
        map_none f g xs ys e d = ap (map f) e ∙ sym (ap (map g) d)

        functions_none : AreFunctions base growing (AreDeclared base old.globals k2) (map names_given heads) plain.functions b2.defined.items b2.bodies.items (map names_given (drop (length b2.bodies.items) b2.ahead.items)) s.functions
        functions_none =
            subst (λ (fs : List the_function.Function). AreFunctions base growing (AreDeclared base old.globals k2) (map names_given heads) fs b2.defined.items b2.bodies.items (map names_given (drop (length b2.bodies.items) b2.ahead.items)) s.functions) (sym a_functions)
            (subst (λ (ds : List Bool). AreFunctions base growing (AreDeclared base old.globals k2) (map names_given heads) [] ds b2.bodies.items (map names_given (drop (length b2.bodies.items) b2.ahead.items)) s.functions) (sym (ap (λ (x : Sofar). x.defined.items) rest ∙ early.none_defined))
            (subst (λ (bs : List the_body.Body). AreFunctions base growing (AreDeclared base old.globals k2) (map names_given heads) [] [] bs (map names_given (drop (length b2.bodies.items) b2.ahead.items)) s.functions) (sym (ap (λ (x : Sofar). x.bodies.items) rest ∙ early.no_bodies))
            (subst (λ (rs : List (Bool × m.Function)). AreFunctions base growing (AreDeclared base old.globals k2) (map names_given heads) [] [] [] (map names_given (drop (length b2.bodies.items) b2.ahead.items)) rs) (sym early.no_functions) (ap (map names_given) no_bodies_drop))))

    pub types_sofar : IsSofar texts all later new b2 made behind
    types_sofar = record {
      texts_are = h.texts_are;
      last = last;
      source = ap (λ (x : Sofar). x.source) rest ∙ h.source;
      layout = ap (λ (x : Sofar). x.layout) rest ∙ h.layout;
      triple = ap (λ (x : Sofar). x.triple) rest ∙ h.triple;
      numbers = record {
        types = sym (listed_first l.types) ∙ (λ j. take (many j) (trees (sym table j)));
        structs_are = sym (same_structs l.types (subst tables.IsGood base_table good_types)) ∙ ap structs (sym table);
        targets = h.numbers.targets;
        globals = h.numbers.globals;
        values = h.numbers.values;
        blocks = h.numbers.blocks;
      };
      counted = h.counted;
      outside = h.outside;
      good = record { variables = h.good.variables; functions = h.good.functions; aliases = h.good.aliases };
      part = inr late;
    }
      where
        table : growing.arena.table ≡ with_type (with_type l.types type.Ptr) (type.Int 1)
        table = ap (λ (x : Lists). x.table) over.arena ∙ ap (λ (t : Types). with_type (with_type t type.Ptr) (type.Int 1)) base_table

        many : length l.types.types ≡ growing.types
        many = sym (over.types ∙ ap (λ (t : Types). length t.types) base_table)

-- in front of the types their structs' names are known
pub early_gathered : (texts : Texts) (all : Records) (known : ModuleAhead) (m : ModuleReader) (b : Sofar) (s : records.Sofar) (id : ℕ) (inside behind : Records) → IsSofar texts all known m b s (a_block id inside behind) → nat_eq id 17 ≡ true
    → may_follow b.last 5 ≡ true → AreGathered known.named known.structs (names_in texts inside)
early_gathered texts all known old b s id inside behind h is may =
    let here = subst (λ n. IsSofar texts all known old b s (a_block n inside behind)) (eqb-true id 17 is) h in
    (early texts all known known old b s inside behind here may).gathered
