-- The block of a body: what it answers, and what was read behind it.
use Rattle.std.proofs.Common.{◌≡◌, ◌⊎◌, ℕ, suc, Bool, true, false, cond, List, [], ◌∷◌, ◌++◌, length, map, drop, slice_get, All, Option, Some, None, is_some, inl, inr, refl, sym, ap, subst, ◌∙◌, arith}
use Rattle.std.specs.Prelude.{Ok, Err}
use Rattle.std.proofs.lemmas.List.{length-append}
use Rattle.module_arena.specs.declared.entry.Body as the_body
use Rattle.module_arena.specs.declared.entry.Function as the_function
use Rattle.module_arena.specs.declared.entry.LocalName as the_local
use Rattle.module_arena.specs.Known.{KnowsBody}
use Rattle.module_arena.specs.Lists.{Lists}
use Rattle.module_arena.specs.Module as m
use Rattle.module_arena.specs.Module.{Bytes}
use Rattle.module_arena.specs.View.{body_view, constants_of, local_view}
use Rattle.type_table.specs.Types.{trees}
use Rattle.record_table.specs.Bodies.{Begun, body}
use Rattle.record_table.specs.Faults.{Answer, ◌>>=◌, Records, a_block, misplaced}
use Rattle.record_table.specs.Fields.{Texts}
use Rattle.record_table.specs.Records as records
use Rattle.record_table.specs.Records.{body_block, first_due, give_body, may_follow}
use Rattle.record_read.specs.declared.fault.BitcodeFault.{BitcodeFault}
use Rattle.record_read.specs.Faults.{Answers, IsMisplaced}
use Rattle.type_read.specs.declared.arena.counts.GlobalCounts.{GlobalCounts}
use Rattle.type_read.specs.declared.arena.counts.LocalCounts.{LocalCounts}
use Rattle.type_read.specs.declared.arena.module_reader.ModuleReader.{ModuleReader}
use Rattle.type_read.specs.Arena.Growing.{Growing, Grows}
use Rattle.type_read.proofs.OnArena.Kept.{grows_two}
use Rattle.body_read.specs.Operands.Found.{Always}
use Rattle.type_read.specs.Fields.{is_good}
use Rattle.body_read.specs.Ahead.Ahead.{AreNamesOf, first_names}
use Rattle.body_read.specs.declared.ahead.ahead.BodyAhead.{BodyAhead}
use Rattle.body_read.specs.Whole.{IsWhole, KeepsCounts}
use Rattle.bitcode_read.specs.Head.Ahead.{AreCounted}
use Rattle.bitcode_read.specs.declared.head.ahead.ModuleAhead.{ModuleAhead}
use Rattle.bitcode_read.specs.Ahead.Bodies.{Foresees, names_given, names_or_none}
use Rattle.bitcode_read.specs.Ahead.Entries.{names_behind, names_for}
use Rattle.record_read.proofs.OnOpening.Answering.{misplaced_so}
use Rattle.record_law.proofs.OnFormed.Lists.{names_kept}
use Rattle.record_read.specs.Order.Due.{due_at}
use Rattle.bitcode_read.specs.declared.sofar.Sofar.{Sofar}
use Rattle.bitcode_read.specs.Sofar.{AreAliases, AreDeclared, AreFunctions, AreVariables, IsDefined, IsDue, IsEarly, IsLate, IsSofar, counts_due}
use Rattle.bitcode_read.proofs.Bodies.{IsNextAhead, due_long, given, next_ahead}
use Rattle.bitcode_read.proofs.BodyNames.{IsNamed, parameters_named}
use Rattle.bitcode_read.proofs.Functions.{IsFirst, body_given, due_found, due_same, functions_later}
use Rattle.bitcode_read.proofs.Growing.{arena_is, declared_now, numbers_kept}
use Rattle.bitcode_read.proofs.Lates.{after_types, aliases_later, variables_later}
use Rattle.bitcode_read.proofs.Stays.{function_stays}

module _ (texts : Texts) (all : Records) (known : ModuleAhead) (old : ModuleReader) (b : Sofar) (s : records.Sofar) (inside behind : Records) (h : IsSofar texts all known old b s (a_block 12 inside behind)) (may : may_follow b.last 9 ≡ true) where
  may_here : may_follow s.last 9 ≡ true
  may_here = ap (λ n. may_follow n 9) h.last ∙ may

  pub late : IsLate old b s (a_block 12 inside behind)
  late = by h.part
    where
      by : IsEarly texts all known old b s (a_block 12 inside behind) ⊎ IsLate old b s (a_block 12 inside behind) → IsLate old b s (a_block 12 inside behind)
      by (inr l) = l
      by (inl e) = let early = e.early in let after = (after_types s.last 9 may_here).0 in absurd (omega (arith, early, after))

  -- the block is of a body
  block_is : records.block_in s 12 inside ≡ body_block s inside (first_due s.functions)
  block_is = ap (λ c. cond {A = Answer records.Sofar} c (body_block s inside (first_due s.functions)) (misplaced 12 s.at)) may_here

  -- none is due
  pub none_due : (given : BitcodeFault) (M : Unit {0} → records.Sofar → Type 0) → due_at b.defined.items (length b.bodies.items) 0 ≡ None → IsMisplaced 12 s.at given → Answers {A = records.Sofar} {B = Unit {0}} M (records.block_in s 12 inside) (Err given)
  none_due given M none bad = subst (λ (a : Answer records.Sofar). Answers {A = records.Sofar} {B = Unit {0}} M a (Err given)) (sym (block_is ∙ ap (body_block s inside) nothing)) (misplaced_so 12 s.at given M bad)
    where
      no_value : (o : Option m.Function) → is_some o ≡ false → o ≡ None
      no_value None e = refl
      no_value (Some f) e = absurd (cc)

      nothing : first_due s.functions ≡ None
      nothing = no_value (first_due s.functions)
          (due_same late.base old.growing (AreDeclared late.base old.globals s.k) late.later late.a.functions b.defined.items b.bodies.items (map names_given (drop (length b.bodies.items) b.ahead.items)) s.functions 0 late.functions ∙ ap is_some none)

  module _ (number : ℕ) (found : due_at b.defined.items (length b.bodies.items) 0 ≡ Some number) where
    pub first : IsFirst late.base late.a.functions (map names_given (drop (length b.bodies.items) b.ahead.items)) s.functions 0 number
    first = due_found late.base old.growing (AreDeclared late.base old.globals s.k) late.later late.a.functions b.defined.items b.bodies.items (map names_given (drop (length b.bodies.items) b.ahead.items)) s.functions 0 number late.functions found

    pub first_long : length first.f.parameters ≡ length first.h.parameters
    first_long = due_long late.base old.growing (AreDeclared late.base old.globals s.k) (names_for true (map names_given (drop (length b.bodies.items) b.ahead.items))) first.f first.h first.due

    place_is : number ≡ first.place
    place_is = let at = first.at in omega (arith, at)

    -- the arena has it
    pub there : slice_get old.growing.arena.functions number ≡ Some first.f
    there =
        ap (λ (a : Lists). slice_get a.functions number) (arena_is late.base late.begun old.growing late.over late.grows)
        ∙ function_stays s.texts (length s.k.types) late.base late.later late.a (a_block 12 inside behind) late.declares number first.f (ap (λ i. slice_get late.a.functions i) place_is ∙ first.there)

    pub ahead : (read : Begun) → IsNextAhead b s first.h inside behind
    ahead read = next_ahead b s first.h inside behind read first.first late.foresees

    pub body_is : records.block_in s 12 inside ≡ (body s.texts s.k (length first.h.parameters) s.at inside >>= λ c. Ok (record s { at = c.at; last = 9; functions = give_body c s.functions }))
    body_is = block_is ∙ ap (body_block s inside) first.first

    names_first : (x : BodyAhead) (xs : List BodyAhead) → drop (length b.bodies.items) b.ahead.items ≡ x ∷ xs → names_for true (map names_given (drop (length b.bodies.items) b.ahead.items)) ≡ names_given x
    names_first x xs e = ap (λ (l : List BodyAhead). names_for true (map names_given l)) e

    -- the body was read
    module _ (counts : LocalCounts) (read new : ModuleReader) (b2 : Sofar) (kept : the_body.Body) (c : Begun) (count : ℕ) (count_is : count ≡ length first.h.parameters) (same : body s.texts s.k count s.at inside ≡ Ok c)
        (keeps : KeepsCounts (record old { locals = counts }) read) (w : IsWhole s.k count (record old { locals = counts }) read kept c) (new_is : new ≡ record read { locals = record { values = 0; blocks = 0 } })
        (more : b2.bodies.items ≡ b.bodies.items ++ kept ∷ []) (last : 9 ≡ b2.last) (rest : b2 ≡ record b { bodies = b2.bodies; last = b2.last }) where
      n : IsNextAhead b s first.h inside behind
      n = ahead c

      growing_is : new.growing ≡ read.growing
      growing_is = ap (λ (x : ModuleReader). x.growing) new_is

      grows : Grows old.growing new.growing
      grows = subst (Grows old.growing) (sym growing_is) keeps.grows

      globals_are : new.globals ≡ old.globals
      globals_are = ap (λ (x : ModuleReader). x.globals) new_is ∙ keeps.globals

      locals_are : old.locals ≡ new.locals
      locals_are =
          let zeros : LocalCounts = record { values = 0; blocks = 0 } in
          let outside : old.locals ≡ zeros = λ j. record { values = h.outside.0 j; blocks = h.outside.1 j } in
          outside ∙ sym (ap (λ (x : ModuleReader). x.locals) new_is)

      -- the names that the body gives are those that were known ahead
      called : map local_view (names_given n.x) ≡ c.parameters
      called = by n.x.names n.ahead.names
        where
          first_is : IsNamed (first_names s.texts (length first.h.parameters) inside) c.parameters
          first_is = subst (λ k. IsNamed (first_names s.texts k inside) c.parameters) count_is (parameters_named s.texts s.k count s.at inside c same)

          by : (o : Option (List the_local.LocalName)) → AreNamesOf o (first_names s.texts (length first.h.parameters) inside) → map local_view (names_or_none o) ≡ c.parameters
          by None none = absurd (none first_is.unbroken)
          by (Some names) named = named.0 ∙ first_is.names_are

      many : length c.parameters ≡ length first.h.parameters
      many = w.parameters ∙ count_is

      longer : length b2.bodies.items ≡ suc (length b.bodies.items)
      longer = let e = ap (λ (l : List the_body.Body). length l) more in let l = length-append b.bodies.items (kept ∷ []) in omega (arith, e, l)

      left_is : drop (length b2.bodies.items) b2.ahead.items ≡ n.xs
      left_is = (λ j. drop (longer j) (rest j).ahead.items) ∙ n.behind_is

      defined_now : (f : the_function.Function) (g : m.Function) → first_due s.functions ≡ Some g → IsDue late.base (names_for true (map names_given (drop (length b.bodies.items) b.ahead.items))) f (true, g)
          → IsDefined late.base new.growing (AreDeclared late.base old.globals s.k) f kept (false, records.with_body c g)
      defined_now f g g_is due =
          let g_same : first.h ≡ g = same_some (sym first.first ∙ g_is) in
          let due_now = subst (λ names. IsDue late.base names f (true, g)) (names_first n.x n.xs n.rest) due in
          let many_now : length c.parameters ≡ length g.parameters = many ∙ ap (λ (u : m.Function). length u.parameters) g_same in
          let long = due_long late.base new.growing (AreDeclared late.base old.globals s.k) (names_given n.x) f g due_now in
          given late.base new.growing (AreDeclared late.base old.globals s.k) (names_given n.x) f g due_now c called many_now kept
          (subst (λ (x : Growing). Always x (λ a. KnowsBody (length a.table.types) (length a.constants) (length f.parameters) kept)) (sym growing_is)
          (subst (λ k. Always read.growing (λ a. KnowsBody (length a.table.types) (length a.constants) k kept)) (count_is ∙ (ap (λ (u : m.Function). length u.parameters) g_same ∙ sym long)) w.known))
          (λ all. subst (λ (x : Growing). Always x (λ a. body_view (trees a.table) (constants_of a) c.parameters kept ≡ c.blocks)) (sym growing_is) (w.blocks (declared_now (record old { locals = counts }) s.k late.base late.begun late.over late.grows all)))
        where
          same_some : {f g : m.Function} → Some f ≡ Some g → f ≡ g
          same_some e = cc

      functions_now : AreFunctions late.base new.growing (AreDeclared late.base new.globals s.k) late.later late.a.functions b2.defined.items b2.bodies.items (map names_given (drop (length b2.bodies.items) b2.ahead.items)) (give_body c s.functions)
      functions_now =
          let l = late in
          let before = functions_later l.base old.growing new.growing (AreDeclared l.base old.globals s.k) l.later grows l.a.functions b.defined.items b.bodies.items (map names_given (drop (length b.bodies.items) b.ahead.items)) s.functions l.functions in
          let now = body_given l.base new.growing (AreDeclared l.base old.globals s.k) l.later l.a.functions b.defined.items b.bodies.items (map names_given (drop (length b.bodies.items) b.ahead.items)) s.functions 0 number kept c before found defined_now in
          let names_left : names_behind true (map names_given (drop (length b.bodies.items) b.ahead.items)) ≡ map names_given (drop (length b2.bodies.items) b2.ahead.items) =
          ap (λ (l : List BodyAhead). names_behind true (map names_given l)) n.rest ∙ ap (map names_given) (sym left_is) in
          moved l now names_left
        where
          moved : (l : IsLate old b s (a_block 12 inside behind)) → AreFunctions l.base new.growing (AreDeclared l.base old.globals s.k) l.later l.a.functions b.defined.items (b.bodies.items ++ kept ∷ []) (names_behind true (map names_given (drop (length b.bodies.items) b.ahead.items))) (give_body c s.functions)
              → names_behind true (map names_given (drop (length b.bodies.items) b.ahead.items)) ≡ map names_given (drop (length b2.bodies.items) b2.ahead.items)
              → AreFunctions l.base new.growing (AreDeclared l.base new.globals s.k) l.later l.a.functions b2.defined.items b2.bodies.items (map names_given (drop (length b2.bodies.items) b2.ahead.items)) (give_body c s.functions)
          moved l now names_left =
              subst (λ (gs : GlobalCounts). AreFunctions l.base new.growing (AreDeclared l.base gs s.k) l.later l.a.functions b2.defined.items b2.bodies.items (map names_given (drop (length b2.bodies.items) b2.ahead.items)) (give_body c s.functions)) (sym globals_are)
              (subst (λ (ds : List Bool). AreFunctions l.base new.growing (AreDeclared l.base old.globals s.k) l.later l.a.functions ds b2.bodies.items (map names_given (drop (length b2.bodies.items) b2.ahead.items)) (give_body c s.functions)) (sym (ap (λ (x : Sofar). x.defined.items) rest))
              (subst (λ (bs : List the_body.Body). AreFunctions l.base new.growing (AreDeclared l.base old.globals s.k) l.later l.a.functions b.defined.items bs (map names_given (drop (length b2.bodies.items) b2.ahead.items)) (give_body c s.functions)) (sym more)
              (subst (λ ns. AreFunctions l.base new.growing (AreDeclared l.base old.globals s.k) l.later l.a.functions b.defined.items (b.bodies.items ++ kept ∷ []) ns (give_body c s.functions)) names_left now)))

      late_now : IsLate new b2 (record s { at = c.at; last = 9; functions = give_body c s.functions }) behind
      late_now =
          let l = late in record {
            late = omega arith;
            alone = λ less. absurd (omega (arith, less));
            base = l.base;
            a = l.a;
            begun = l.begun;
            over = l.over;
            grows = grows_two l.begun old.growing new.growing l.grows grows;
            good = l.good;
            good_types = l.good_types;
            distinct = l.distinct;
            types = l.types;
            structs_are = l.structs_are;
            later = l.later;
            declares = l.declares;
            unset = l.unset;
            untargeted = l.untargeted;
            undefined = l.undefined;
            called = record { variables = l.called.variables; functions = l.called.functions ∙ sym (names_kept c s.functions); aliases = l.called.aliases };
            foresees = subst (λ (xs : List BodyAhead). Foresees s.texts s.k (length s.k.types) (counts_due (give_body c s.functions)) xs behind) (sym left_is) (n.foresees c);
            variables = subst (λ (os : List (Option ℕ)). AreVariables l.base new.growing (AreDeclared l.base new.globals s.k) l.a.variables os s.variables) (sym (ap (λ (x : Sofar). x.initialisers.items) rest))
                (subst (λ (gs : GlobalCounts). AreVariables l.base new.growing (AreDeclared l.base gs s.k) l.a.variables b.initialisers.items s.variables) (sym globals_are)
                (variables_later l.base old.growing new.growing (AreDeclared l.base old.globals s.k) l.a.variables b.initialisers.items s.variables grows l.variables));
            aliases = subst (λ os. AreAliases l.base new.growing (AreDeclared l.base new.globals s.k) l.a.aliases os s.aliases) (sym (ap (λ (x : Sofar). x.targets.items) rest))
                (subst (λ (gs : GlobalCounts). AreAliases l.base new.growing (AreDeclared l.base gs s.k) l.a.aliases b.targets.items s.aliases) (sym globals_are)
                (aliases_later l.base old.growing new.growing (AreDeclared l.base old.globals s.k) l.a.aliases b.targets.items s.aliases grows l.aliases));
            functions = functions_now;
          }

      pub body_sofar : IsSofar texts all known new b2 (record s { at = c.at; last = 9; functions = give_body c s.functions }) behind
      body_sofar = record {
        texts_are = h.texts_are;
        last = last;
        source = ap (λ (x : Sofar). x.source) rest ∙ h.source;
        layout = ap (λ (x : Sofar). x.layout) rest ∙ h.layout;
        triple = ap (λ (x : Sofar). x.triple) rest ∙ h.triple;
        numbers = numbers_kept old new s.k (sym globals_are) locals_are grows h.numbers;
        counted = subst (λ (gs : GlobalCounts). AreCounted texts all gs) (sym globals_are) h.counted;
        outside = (ap (λ (x : ModuleReader). x.locals.values) new_is, ap (λ (x : ModuleReader). x.locals.blocks) new_is);
        good = record {
          variables = h.good.variables;
          functions = subst (λ (ns : List Bytes). All (λ k. is_good k ≡ true) ns) (sym (names_kept c s.functions)) h.good.functions;
          aliases = h.good.aliases;
        };
        part = inr late_now;
      }
