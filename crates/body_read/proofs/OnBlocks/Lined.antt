-- An instruction, put behind what was read so far.
use Rattle.std.proofs.Common.{◌≡◌, ◌⊎◌, ◌+◌, ℕ, zero, suc, Bool, true, false, not, ◌&&◌, cond, List, [], ◌∷◌, ◌++◌, Option, Some, None, IfSome, length, map, flat_map, get_or, All, inl, inr, refl, sym, ap, subst, ◌∙◌, arith, append_assoc, append-nil, add-one}
use Rattle.std.specs.Prelude.{◌||◌, bytes_eq, option_to_list}
use Rattle.std.specs.List.{list_any}
use Rattle.std.specs.Option.{option_map}
use Rattle.std.proofs.lemmas.List.{length-append, length-map, map-append}
use Rattle.std.proofs.lemmas.List.Concat.{flat_map-append}
use Rattle.std.proofs.lemmas.List.Elements.{All-push}
use Rattle.ir_tables.specs.declared.opcode.Opcode.{Opcode}
use Rattle.type_table.specs.Tree.{Tree}
use Rattle.type_table.specs.Types.{trees}
use Rattle.module_arena.proofs.Found.{some-equal}
use Rattle.module_arena.specs.declared.entry.LocalName as the_local
use Rattle.module_arena.specs.declared.instruction.Inst.{Inst}
use Rattle.module_arena.specs.declared.instruction.Inst.TheVariants as inst
use Rattle.module_arena.specs.Known.{KnowsBlock, upto}
use Rattle.module_arena.specs.Mentions.{block_results, result_of}
use Rattle.module_arena.specs.Module as m
use Rattle.module_arena.specs.View.{block_view, constants_of, inst_view, local_view, value_name}
use Rattle.record_table.specs.Bodies as bodies
use Rattle.record_table.specs.Faults.{also}
use Rattle.record_table.specs.Fields.{Numbering}
use Rattle.record_table.specs.Layout.{judged}
use Rattle.record_table.specs.Lines.{instruction}
use Rattle.record_table.specs.Walk.{Walk, going, told}
use Rattle.record_law.specs.Labels.Laws.{opened, results_in, results_of}
use Rattle.record_read.specs.declared.texts.Texts as the_texts
use Rattle.record_read.specs.Fields.{texts_of}
use Rattle.record_read.specs.Reader.{Reader, IsBrokenBy, is_broken}
use Rattle.type_read.specs.declared.arena.counts.LocalCounts.{LocalCounts}
use Rattle.type_read.specs.declared.arena.module_reader.ModuleReader.{ModuleReader}
use Rattle.type_read.specs.Arena.Growing.{Growing, Grows}
use Rattle.type_read.specs.Arena.Kept.{IsThere}
use Rattle.type_read.specs.Arena.Numbered.{Numbers, IsDeclared}
use Rattle.type_read.proofs.OnArena.Kept.{grows_self, grows_two}
use Rattle.body_read.proofs.OnOperands.Joined.{same_locals}
use Rattle.body_read.specs.Lines.Kept.{HasInst, operation_in}
use Rattle.body_read.specs.Calls.Calls.{IsNameOf, ReadsLine, ids_of, name_behind, operation_read}
use Rattle.body_read.specs.Names.Called.{AreNames, beyond_table}
use Rattle.body_read.specs.declared.names.called.BodyNames.{BodyNames}
use Rattle.body_read.specs.declared.blocks.begun.Begun.{Begun}
use Rattle.body_read.specs.Blocks.Begun.{Adds, CallsKept, Follows, Has, IsBody, IsCounted, Means, block_called, due_view, results_so_far}
use Rattle.body_read.proofs.OnBlocks.Closing.{told_unbroken, vain_both}
use Rattle.body_read.proofs.OnBlocks.Ended.{passes_by}
use Rattle.body_read.proofs.OnBlocks.Missing.{broken_on, missing_name}

-- the first of these, where there is one
abbrev first_of : {A : Type 0} → List A → Option A
first_of [] = None
first_of (x ∷ xs) = Some x

-- what the result of an instruction is called, by the value that it defines
result_view : (ts : List Tree) (cs : List m.Constant) (vs bs : List m.LocalName) (i : Inst) → (inst_view ts cs vs bs i).result ≡ option_map (value_name ts cs vs bs) (first_of (result_of i))
result_view ts cs vs bs (inst.Binary o f r a b) = refl
result_view ts cs vs bs (inst.Compare f p r a b) = refl
result_view ts cs vs bs (inst.Convert o f r a t) = refl
result_view ts cs vs bs (inst.Select r choice) = refl
result_view ts cs vs bs (inst.Freeze r a) = refl
result_view ts cs vs bs (inst.Phi r t is) = refl
result_view ts cs vs bs (inst.Load f r t a align) = refl
result_view ts cs vs bs (inst.Store f v a align) = refl
result_view ts cs vs bs (inst.Alloca r t count align) = refl
result_view ts cs vs bs (inst.GetElementPtr f r t a is) = refl
result_view ts cs vs bs (inst.Call call) = by call.result
  where
    by : (o : Option ℕ) → option_map (value_name ts cs vs bs) o ≡ option_map (value_name ts cs vs bs) (first_of (option_to_list o))
    by None = refl
    by (Some id) = refl
result_view ts cs vs bs (inst.ExtractValue r a is) = refl
result_view ts cs vs bs (inst.InsertValue r insertion) = refl

-- one number more in order
upto_more : (first n : ℕ) → upto first (suc n) ≡ upto first n ++ (first + n) ∷ []
unfolding upto
upto_more first zero = (λ j. one j ∷ [])
  where
    one : first ≡ first + 0
    one = omega arith
upto_more first (suc n) = ap (λ (xs : List ℕ). first ∷ xs) (upto_more (first + 1) n ∙ (λ j. upto (first + 1) n ++ same j ∷ []))
  where
    same : (first + 1) + n ≡ first + suc n
    same = omega arith

-- the names of what is kept
abbrev names_of : Option the_local.LocalName → List m.LocalName
names_of None = []
names_of (Some name) = local_view name ∷ []

module _ (x : the_texts.Texts) (k : Numbering) (count : ℕ) (a b : ModuleReader) (before : Begun) (named : BodyNames) (o : Opcode) (name : Option the_local.LocalName) (kept : Option Inst) (is_new : Bool) (s : bodies.Begun) (operands : List ℕ)
    (front : a.reader.walk ≡ going operands None) (follows : Follows count before s) (n : Numbers a k) (reads : ReadsLine (texts_of x) before.next before.names.own o a b (record { name = name; instruction = kept })) (made : CallsKept before.names name is_new named) where
  abbrev read : m.Instruction × Option ℕ
  read = judged (instruction (texts_of x) k s.own o) operands

  abbrev result : Option m.LocalName
  result = read.0.result

  abbrev last : Walk
  last = ((instruction (texts_of x) k s.own o).read (going operands None)).1

  walk_is : b.reader.walk ≡ last
  walk_is = reads.reads.walk k n ∙ (λ j. ((instruction (texts_of x) k (follows.names.own_is j) o).read (front j)).1)

  pub line_same : told b.reader.walk ≡ read.1
  line_same = ap told walk_is

  name_is : IsNameOf name result (name_behind (texts_of x) s.own o k (going operands None))
  name_is = subst (λ (p : ℕ × Walk). IsNameOf name ((instruction (texts_of x) k p.0 o).read p.1).0.result (name_behind (texts_of x) p.0 o k p.1)) (λ j. (follows.names.own_is j, front j)) (reads.name k n)

  not_there : list_any (bytes_eq beyond_table) s.taken ≡ false
  not_there = sym (ap (λ (c : Bool). list_any (bytes_eq beyond_table) (cond c (beyond_table ∷ before.names.taken.keys) before.names.taken.keys)) (sym follows.ordinary) ∙ follows.names.there beyond_table) ∙ follows.names.bytes

  -- whether the name is new tells as much as the definition does
  pub line_told : also 4 is_new (told b.reader.walk) ≡ also 4 (bodies.are_new s.taken (bodies.results result)) (told b.reader.walk)
  line_told = by name result refl name_is made
    where
      by : (nm : Option the_local.LocalName) (r : Option m.LocalName) → result ≡ r → IsNameOf nm r (name_behind (texts_of x) s.own o k (going operands None)) → CallsKept before.names nm is_new named
          → also 4 is_new (told b.reader.walk) ≡ also 4 (bodies.are_new s.taken (bodies.results r)) (told b.reader.walk)
      by None None e is made = ap (λ c. also 4 c (told b.reader.walk)) made.0
      by None (Some v) e is made = by_rule (missing_name x k s.own o operands v e is)
        where
          by_rule : IsBrokenBy 4 last ⊎ (v ≡ m.Named beyond_table) → also 4 is_new (told b.reader.walk) ≡ also 4 (bodies.are_new s.taken (v ∷ [])) (told b.reader.walk)
          by_rule (inl low) = vain_both is_new (bodies.are_new s.taken (v ∷ [])) b.reader.walk (subst (IsBrokenBy 4) (sym walk_is) low)
          by_rule (inr strange) = ap (λ c. also 4 c (told b.reader.walk)) (made.0 ∙ (ap (λ c. not c && true) (sym not_there) ∙ ap (λ w. bodies.are_new s.taken (w ∷ [])) (sym strange)))
      by (Some nm) None e is made = absurd is
      by (Some nm) (Some v) e is made = ap (λ c. also 4 c (told b.reader.walk)) ((made.judged s.own s.taken follows.names).0 ∙ ap (λ w. bodies.are_new s.taken (w ∷ [])) is)

  module _ (line : s.due ≡ bodies.Line) (told_none : read.1 ≡ None) where
    unbroken : is_broken b.reader.walk ≡ false
    unbroken = told_unbroken b.reader.walk (line_same ∙ told_none)

    -- the name that is kept is that of the result
    names_are : names_of name ≡ bodies.results result
    names_are = by name result refl name_is
      where
        by : (nm : Option the_local.LocalName) (r : Option m.LocalName) → result ≡ r → IsNameOf nm r (name_behind (texts_of x) s.own o k (going operands None)) → names_of nm ≡ bodies.results r
        by None None e is = refl
        by None (Some v) e is = let broken : is_broken b.reader.walk ≡ true = ap is_broken walk_is ∙ broken_on x k s.own o operands v e is in let sound = unbroken in absurd (cc)
        by (Some nm) None e is = absurd is
        by (Some nm) (Some v) e is = ap (λ w. w ∷ []) is

    abbrev t : bodies.Begun
    t = record s { at = suc s.at; own = bodies.after_all s.own (bodies.results result); taken = bodies.with_names s.taken (bodies.results result); instructions = s.instructions ++ read.0 ∷ [] }

    called : (nm : Option the_local.LocalName) → CallsKept before.names nm is_new named → AreNames named (bodies.after_all s.own (names_of nm)) (bodies.with_names s.taken (names_of nm)) × (named.strange ≡ false)
    called None made = (subst (λ ns. AreNames ns s.own s.taken) (sym made.1) follows.names, ap (λ (ns : BodyNames). ns.strange) made.1 ∙ follows.ordinary)
    called (Some nm) made = ((made.judged s.own s.taken follows.names).1, made.strange ∙ or_false before.names.strange follows.ordinary)
      where
        or_false : (c : Bool) → c ≡ false → (c || false) ≡ false
        or_false true e = cc
        or_false false e = refl

    named_list : (nm : Option the_local.LocalName) → map local_view (option_to_list nm) ≡ names_of nm
    named_list None = refl
    named_list (Some nm) = refl

    many_named : (nm : Option the_local.LocalName) → length (option_to_list nm) ≡ length (ids_of before.next nm)
    many_named None = refl
    many_named (Some nm) = refl

    not_parameters : s.due ≡ bodies.Parameters → ⊥
    not_parameters first = cc

    module _ (i : Inst) (some : kept ≡ Some i) (later_body : Begun) (adds : Adds (record before { names = named }) i name later_body) where
      results_more : results_so_far s ++ bodies.results result ≡ results_so_far t
      results_more =
          ap (λ d. (results_of s.blocks ++ results_in (opened d s.instructions)) ++ bodies.results result) line
          ∙ (append_assoc (results_of s.blocks) (results_in s.instructions) (bodies.results result)
          ∙ (ap (λ (xs : List m.LocalName). results_of s.blocks ++ xs)
          (sym (flat_map-append (λ (j : m.Instruction). bodies.results j.result) s.instructions (read.0 ∷ []) ∙ ap (λ (xs : List m.LocalName). results_in s.instructions ++ xs) (append-nil (bodies.results result))))
          ∙ ap (λ d. results_of s.blocks ++ results_in (opened d (s.instructions ++ read.0 ∷ []))) (sym line)))

      line_follows : Follows count later_body t
      line_follows = record {
        due_is = ap (λ (y : Begun). due_view y.due) adds.rest ∙ follows.due_is;
        names = subst (λ (y : Begun). AreNames y.names t.own t.taken) (sym adds.rest) (subst (λ ns. AreNames named (bodies.after_all s.own ns) (bodies.with_names s.taken ns)) names_are (called name made).0);
        ordinary = ap (λ (y : Begun). y.names.strange) adds.rest ∙ (called name made).1;
        name = λ is. ap (λ (y : Begun). local_view y.name) adds.rest ∙ follows.name line;
        blocks = ap (λ (y : Begun). map block_called y.blocks.items) adds.rest ∙ follows.blocks;
        results = ap (map local_view) adds.results ∙ (map-append local_view before.results.items (option_to_list name) ∙ ((λ j. follows.results j ++ (named_list name ∙ names_are) j) ∙ results_more));
        counted = λ not. follows.counted not_parameters;
        next = λ not.
            let size = ap length adds.results ∙ length-append before.results.items (option_to_list name) in
            let old = follows.next not_parameters in
            let new = adds.next in
            omega (arith, size, old, new);
        closed = ap (λ d. opened d later_body.instructions.items) line;
        first = λ is. absurd (not_parameters is);
      }

      module _ (later : Growing) (g : Grows b.growing later) where
        there : HasInst b.locals later.arena i
        there = subst (λ y. IsThere (HasInst b.locals later.arena) y b.reader.walk) some (reads.reads.there later g)

        defines : result_of i ≡ ids_of before.next name
        defines = subst (λ (y : Option Inst). IfSome y (λ j. result_of j ≡ ids_of before.next name)) some reads.defines

        in_order : (nm : Option the_local.LocalName) → upto count (length before.results.items) ++ ids_of before.next nm ≡ upto count (length before.results.items + length (option_to_list nm))
        in_order None = append-nil (upto count (length before.results.items)) ∙ ap (upto count) (none (length before.results.items))
          where
            none : (c : ℕ) → c ≡ c + 0
            none c = omega arith
        in_order (Some nm) = ap (λ id. upto count (length before.results.items) ++ id ∷ []) (follows.next not_parameters) ∙ sym (ap (upto count) (add-one (length before.results.items)) ∙ upto_more count (length before.results.items))

        line_has : Has b.locals later.arena count before → Has b.locals later.arena count later_body
        line_has h = record {
          blocks = subst (λ (y : Begun). All (KnowsBlock (length later.arena.table.types) (length later.arena.constants) b.locals.values b.locals.blocks) y.blocks.items) (sym adds.rest) h.blocks;
          instructions = subst (All (HasInst b.locals later.arena)) (sym adds.instructions) (All-push (HasInst b.locals later.arena) before.instructions.items i h.instructions there);
          in_order = (λ j. flat_map block_results (adds.rest j).blocks.items ++ flat_map result_of (adds.instructions j))
              ∙ (ap (λ (xs : List ℕ). flat_map block_results before.blocks.items ++ xs) (flat_map-append result_of before.instructions.items (i ∷ []) ∙ ap (λ (xs : List ℕ). flat_map result_of before.instructions.items ++ xs) (append-nil (result_of i) ∙ defines))
              ∙ (sym (append_assoc (flat_map block_results before.blocks.items) (flat_map result_of before.instructions.items) (ids_of before.next name))
              ∙ (ap (λ (xs : List ℕ). xs ++ ids_of before.next name) h.in_order
              ∙ (in_order name ∙ ap (upto count) (sym (ap length adds.results ∙ length-append before.results.items (option_to_list name)))))));
        }

        -- what its result is called
        module _ (counted : IsCounted k s read) (declared : IsDeclared a k) where
          place : before.next ≡ length s.parameters + length (results_so_far s)
          place =
              let next = follows.next not_parameters in
              let many = follows.counted not_parameters in
              let size = sym (length-map before.results.items local_view) ∙ ap length follows.results in
              omega (arith, next, many, size)

          result_by : (nm : Option the_local.LocalName) (r : Option m.LocalName) → result ≡ r → names_of nm ≡ bodies.results r
              → option_map (value_name (trees later.arena.table) (constants_of later.arena) k.values k.blocks) (first_of (ids_of before.next nm)) ≡ r
          result_by None None e same = refl
          result_by None (Some v) e same = absurd (cc)
          result_by (Some nm) None e same = absurd (cc)
          result_by (Some nm) (Some v) e same =
              ap (λ (w : m.LocalName). Some w) (ap (λ id. get_or k.values id (m.Numbered 0)) place ∙ counted line told_none v e)

          one : inst_view (trees later.arena.table) (constants_of later.arena) k.values k.blocks i ≡ read.0
          one =
              let operation : operation_in k later.arena i ≡ read.0.operation =
              some-equal (subst (λ (y : Option Inst). option_map (operation_in k later.arena) y ≡ Some (operation_read (texts_of x) before.names.own o k a.reader.walk).0) some (reads.reads.kept k n declared unbroken later g))
              ∙ (λ j. (operation_read (texts_of x) (follows.names.own_is j) o k (front j)).0) in
              let called_so : (inst_view (trees later.arena.table) (constants_of later.arena) k.values k.blocks i).result ≡ result =
              result_view (trees later.arena.table) (constants_of later.arena) k.values k.blocks i
              ∙ (ap (λ ids. option_map (value_name (trees later.arena.table) (constants_of later.arena) k.values k.blocks) (first_of ids)) defines ∙ result_by name result refl names_are) in
              λ j. record { result = called_so j; operation = operation j }

          line_means : Means later.arena k before s → Means later.arena k later_body t
          line_means h =
              let iv = inst_view (trees later.arena.table) (constants_of later.arena) k.values k.blocks in
              record {
                blocks = ap (λ (y : Begun). map (block_view (trees later.arena.table) (constants_of later.arena) k.values k.blocks) y.blocks.items) adds.rest ∙ h.blocks;
                instructions = ap (map iv) adds.instructions ∙ (map-append iv before.instructions.items (i ∷ []) ∙ ((λ j. (h.instructions ∙ ap (λ d. opened d s.instructions) line) j ++ one j ∷ []) ∙ ap (λ d. opened d (s.instructions ++ read.0 ∷ [])) (sym line)));
              }

      pub line_body : IsCounted k s read → (r : Reader) → r.spent ≡ b.reader.spent → r.left ≡ b.reader.left → r.at ≡ b.reader.at → IsBody k count a (record b { reader = r }) before later_body s t
      line_body counted r spent left at = record {
        passes = passes_by a b r reads.reads.goes spent left at;
        follows = line_follows;
        at = refl;
        has = λ old later g. line_has later g (subst (λ (l : LocalCounts). Has l later.arena count before) (same_locals a b reads.reads.goes) (old later (grows_two a.growing b.growing later reads.reads.goes.grows g)));
        means = λ declared old later g. line_means later g counted declared (old later (grows_two a.growing b.growing later reads.reads.goes.grows g));
      }

    -- a line is put behind what was read so far, where there is an instruction; there is one where no rule is broken
    pub line_added : (later_body : Begun) → ((i : Inst) → kept ≡ Some i → Adds (record before { names = named }) i name later_body) → IsCounted k s read
        → (r : Reader) → r.spent ≡ b.reader.spent → r.left ≡ b.reader.left → r.at ≡ b.reader.at → IsBody k count a (record b { reader = r }) before later_body s t
    line_added later_body adds counted r spent left at = by kept refl (reads.reads.there b.growing (grows_self b.growing))
      where
        by : (y : Option Inst) → kept ≡ y → IsThere (HasInst b.locals b.growing.arena) kept b.reader.walk → IsBody k count a (record b { reader = r }) before later_body s t
        by None e there =
            let broken : is_broken b.reader.walk ≡ true = subst (λ y. IsThere (HasInst b.locals b.growing.arena) y b.reader.walk) e there in
            let sound = unbroken in
            absurd (cc)
        by (Some i) e there = line_body i e later_body (adds i e) counted r spent left at
