-- Constants that are made of others: that the arena has their parts, and what they are.
use Rattle.std.proofs.Common.{◌≡◌, ◌⊎◌, ◌<◌, ◌-◌, ℕ, zero, suc, Bool, true, false, List, [], ◌∷◌, Option, Some, None, length, All, IfSome, inl, inr, refl, sym, ap, subst, ◌∙◌, arith}
use Rattle.ir_tables.specs.declared.opcode.Opcode.{Opcode}
use Rattle.ir_tables.specs.declared.opcode.Opcode.TheVariants.{GetElementPtr}
use Rattle.type_table.specs.Tree.{Tree, ptr}
use Rattle.type_table.specs.Types.{Types, tree}
use Rattle.module_arena.specs.declared.constant.Const.{Const}
use Rattle.module_arena.specs.declared.constant.Const.TheVariants as const
use Rattle.module_arena.specs.declared.constant.TypedConst.{TypedConst}
use Rattle.module_arena.specs.Changes.{constant_in}
use Rattle.module_arena.specs.Known.{HasGlobal, KnowsConst, counts}
use Rattle.module_arena.specs.Lists.{Lists}
use Rattle.module_arena.specs.Module as m
use Rattle.module_arena.specs.TypeTests.{is_pointer}
use Rattle.module_arena.proofs.Found.{some-equal}
use Rattle.std.specs.Prelude.{is_some}
use Rattle.std.specs.Option.{option_map}
use Rattle.std.proofs.lemmas.List.Elements.{All-nil}
use Rattle.module_arena.proofs.Replaced.{one_all}
use Rattle.record_table.specs.Walk.{Walk, next, ask, stop}
use Rattle.record_table.specs.Layout.{number, found_or}
use Rattle.record_table.specs.declared.form.ConstantForm as the_form
use Rattle.record_table.specs.Codes.{form_view}
use Rattle.record_table.specs.Fields.{Numbering, ty, flags}
use Rattle.record_table.specs.Constants as constants
use Rattle.record_read.specs.Reader.{Reader, Reads, IsKept, IsBroken, is_broken}
use Rattle.type_read.specs.declared.arena.module_reader.ModuleReader.{ModuleReader}
use Rattle.type_read.specs.Arena.Growing.{IsConstant}
use Rattle.type_read.specs.Arena.Numbered.{IsDeclared}
use Rattle.type_read.specs.Arena.Kept.{Goes, Keeps, IsRead, IsThere, IsKnownType, HasConstant, ReadsType, tree_at}
use Rattle.type_read.proofs.OnArena.Kept.{same_table, still_constant}
use Rattle.type_read.proofs.OnArena.Lasting.{next_still, ask_still}
use Rattle.body_read.specs.declared.constants.made.NestedForm as the_nested
use Rattle.body_read.specs.declared.constants.made.NestedForm.TheVariants as nested
use Rattle.type_read.proofs.OnArena.Steps.{goes_reader, goes_two, kept_keeps, kept_read, none_keeps, none_read, still_declared}
use Rattle.body_read.specs.Constants.Made.{HasTyped, HasAll, KeepsMade, AreIndices, inner_of, nested_form, typed_of, cast_of, pair_of, address_of}

-- ---- the parts are there

two_all : {A : Type 0} (P : A → Type 0) (x y : A) → P x → P y → All P (x ∷ y ∷ [])
two_all P x y h i zero d lt = h
two_all P x y h i (suc zero) d lt = i
two_all P x y h i (suc (suc k)) d lt = absurd (omega arith)

module _ (a : Lists) where
  pub knows_cast : (opcode : Opcode) (part : TypedConst) (to : ℕ) → HasTyped a part → to < length a.table.types → KnowsConst (length a.table.types) (counts a) (length a.constants) (const.Cast opcode part to)
  knows_cast opcode part to h lt = record {
    types_known = one_all (λ id. id < length a.table.types) to lt;
    typed_known = one_all (HasTyped a) part h;
    globals_known = All-nil (HasGlobal (counts a));
  }

  pub knows_pair : (opcode : Opcode) (bits : ℕ) (left right : TypedConst) → HasTyped a left → HasTyped a right → KnowsConst (length a.table.types) (counts a) (length a.constants) (const.Binary opcode bits (record { left = left; right = right }))
  knows_pair opcode bits left right h i = record {
    types_known = All-nil (λ id. id < length a.table.types);
    typed_known = two_all (HasTyped a) left right h i;
    globals_known = All-nil (HasGlobal (counts a));
  }

  pub knows_element : (bits source : ℕ) (operands : List TypedConst) → source < length a.table.types → All (HasTyped a) operands → KnowsConst (length a.table.types) (counts a) (length a.constants) (const.ElementAddress bits (record { source = source; operands = operands }))
  knows_element bits source operands lt all = record {
    types_known = one_all (λ id. id < length a.table.types) source lt;
    typed_known = all;
    globals_known = All-nil (HasGlobal (counts a));
  }

-- a constant with its type, where both are there
pub typed_there : (m : ModuleReader) (ty value : Option ℕ) → IsKnownType m ty → IsThere (HasConstant m.growing.arena) value m.reader.walk → IsThere (HasTyped m.growing.arena) (typed_of ty value) m.reader.walk
typed_there m None value h i = h
typed_there m (Some ty) None h i = i
typed_there m (Some ty) (Some value) h i = (h, i)

-- ---- a constant that is kept

pub made_keeps : (old mid new : ModuleReader) (made : Option Const) (answer : Option ℕ) → Goes old mid → KeepsMade mid made new answer → Keeps HasConstant old new answer
made_keeps old mid new None answer g h =
    subst (Keeps HasConstant old new) (sym h.0) (subst (λ (x : ModuleReader). Keeps HasConstant old x None) (sym h.1) (none_keeps old mid g h.2))
made_keeps old mid new (Some c) answer g h = kept_keeps old mid new c answer g h

pub made_read : (k : Numbering) (old mid new : ModuleReader) (made : Option Const) (answer : Option ℕ) (value : m.Constant) (walk : Walk) → mid.reader.walk ≡ walk → KeepsMade mid made new answer
    → ((c : Const) → made ≡ Some c → is_broken mid.reader.walk ≡ false → IsDeclared old k → constant_in mid.growing.arena c ≡ value) → IsRead k IsConstant (value, walk) old new answer
made_read k old mid new None answer value walk at h means =
    subst (IsRead k IsConstant (value, walk) old new) (sym h.0) (subst (λ (x : ModuleReader). IsRead k IsConstant (value, walk) old x None) (sym h.1) (none_read k old mid value walk at h.2))
made_read k old mid new (Some c) answer value walk at h means = kept_read k old mid new c answer value walk at h (means c refl)

-- ---- casts

cast_value : (a : Lists) (opcode : Opcode) (from value to : Option ℕ) (v : m.Constant) (w : Walk) (c : Const) → IsKept (IsConstant a) value v w → cast_of opcode (typed_of from value) to ≡ Some c
    → constant_in a c ≡ m.Cast opcode (tree_at a.table from) v (tree_at a.table to)
cast_value a opcode None value to v w c kept is = absurd (cc)
cast_value a opcode (Some f) None to v w c kept is = absurd (cc)
cast_value a opcode (Some f) (Some id) None v w c kept is = absurd (cc)
cast_value a opcode (Some f) (Some id) (Some t) v w c kept is = ap (constant_in a) (sym (some-equal is)) ∙ ap (λ (x : m.Constant). m.Cast opcode (tree a.table f) x (tree a.table t)) kept.constant

pub table_stays : (a b : ModuleReader) → Goes a b → b.growing.arena.table ≡ a.growing.arena.table
table_stays a b g = same_table a.growing b.growing g.grows

pub converted_read : (k : Numbering) (inner : constants.Reads) (m0 m2 m3 m4 : ModuleReader) (r : Reader) (opcode : Opcode) (from value to answer : Option ℕ)
    → Reads constants.cast_opcode m0.reader r opcode → Goes m0 m2 → ReadsType k (record m0 { reader = r }) m2 from → Keeps HasConstant m2 m3 value → IsRead k IsConstant (inner (tree_at m2.growing.arena.table from) m2.reader.walk) m2 m3 value
    → KeepsMade m3 (cast_of opcode (typed_of from value) to) m4 answer → IsRead k IsConstant (constants.converted k inner (tree_at m0.growing.arena.table to) m0.reader.walk) m0 m4 answer
converted_read k inner m0 m2 m3 m4 r opcode from value to answer op g tyread keeps read made =
    let o = constants.cast_opcode.read m0.reader.walk in
    let f = (ty k).read o.1 in
    let at1 : r.walk ≡ o.1 = ap (λ (q : Reader). q.walk) op.reader in
    let at2 : m2.reader.walk ≡ f.1 = ap (λ (q : Reader). q.walk) tyread.reader ∙ ap (λ w. ((ty k).read w).1) at1 in
    let t2 : m2.growing.arena.table ≡ m0.growing.arena.table = table_stays m0 m2 g in
    let t3 : m3.growing.arena.table ≡ m0.growing.arena.table = table_stays m2 m3 keeps.goes ∙ t2 in
    let from_is : tree_at m0.growing.arena.table from ≡ f.0 = tyread.tree_is ∙ ap (λ w. ((ty k).read w).0) at1 in
    let from_two : tree_at m2.growing.arena.table from ≡ f.0 = ap (λ (t : Types). tree_at t from) t2 ∙ from_is in
    made_read k m0 m3 m4 (cast_of opcode (typed_of from value) to) answer (m.Cast o.0 f.0 (inner f.0 f.1).0 (tree_at m0.growing.arena.table to)) (inner f.0 f.1).1
    (read.walk ∙ (λ j. (inner (from_two j) (at2 j)).1)) made
    (λ c is unbroken declared.
    cast_value m3.growing.arena opcode from value to (inner (tree_at m2.growing.arena.table from) m2.reader.walk).0 m3.reader.walk c (read.kept (still_declared m0 m2 k g declared)) is
    ∙ (λ j. m.Cast (op.value j) ((ap (λ (t : Types). tree_at t from) t3 ∙ from_is) j) (inner (from_two j) (at2 j)).0 (tree_at (t3 j) to)))

-- ---- operations

pair_value : (a b : Lists) (opcode : Opcode) (bits : ℕ) (t left right : Option ℕ) (v u : m.Constant) (w x : Walk) (c : Const) → IsKept (IsConstant b) left v w → IsKept (IsConstant b) right u x → pair_of opcode bits (typed_of t left) (typed_of t right) ≡ Some c
    → constant_in b c ≡ m.Binary opcode bits (tree_at b.table t) v (tree_at b.table t) u
pair_value a b opcode bits None left right v u w x c kept also is = absurd (cc)
pair_value a b opcode bits (Some t) None right v u w x c kept also is = absurd (cc)
pair_value a b opcode bits (Some t) (Some l) None v u w x c kept also is = absurd (cc)
pair_value a b opcode bits (Some t) (Some l) (Some r) v u w x c kept also is =
    ap (constant_in b) (sym (some-equal is)) ∙ (λ j. m.Binary opcode bits (tree b.table t) (kept.constant j) (tree b.table t) (also.constant j))

-- what is kept of a constant stays so
kept_stays : (a b : ModuleReader) (answer : Option ℕ) (v : m.Constant) → Goes a b → IsKept (IsConstant a.growing.arena) answer v a.reader.walk → IsKept (IsConstant b.growing.arena) answer v b.reader.walk
kept_stays a b None v g h = g.lasts h
kept_stays a b (Some id) v g h = still_constant a.growing b.growing id v g.grows h

pub computed_read : (k : Numbering) (inner : constants.Reads) (m0 m2 m3 m4 m5 : ModuleReader) (r1 r2 : Reader) (opcode : Opcode) (bits : ℕ) (t left right answer : Option ℕ)
    → Reads constants.binary_opcode m0.reader r1 opcode → IsBroken r2.walk ⊎ (bits ≡ ((flags opcode).read r1.walk).0) → r2 ≡ record r1 { walk = ((flags opcode).read r1.walk).1 } → m2 ≡ record m0 { reader = r2 } → Goes m0 m2
    → Keeps HasConstant m2 m3 left → IsRead k IsConstant (inner (tree_at m2.growing.arena.table t) m2.reader.walk) m2 m3 left
    → Keeps HasConstant m3 m4 right → IsRead k IsConstant (inner (tree_at m3.growing.arena.table t) m3.reader.walk) m3 m4 right
    → KeepsMade m4 (pair_of opcode bits (typed_of t left) (typed_of t right)) m5 answer → IsRead k IsConstant (constants.computed k inner (tree_at m0.growing.arena.table t) m0.reader.walk) m0 m5 answer
computed_read k inner m0 m2 m3 m4 m5 r1 r2 opcode bits t left right answer op bits_are flags_read is g keeps read also next_read made =
    let o = constants.binary_opcode.read m0.reader.walk in
    let f = (flags o.0).read o.1 in
    let u = tree_at m0.growing.arena.table t in
    let a = inner u f.1 in
    let b = inner u a.1 in
    let at1 : r1.walk ≡ o.1 = ap (λ (q : Reader). q.walk) op.reader in
    let at2 : m2.reader.walk ≡ f.1 = ap (λ (x : ModuleReader). x.reader.walk) is ∙ (ap (λ (q : Reader). q.walk) flags_read ∙ (λ j. ((flags (op.value j)).read (at1 j)).1)) in
    let t2 : m2.growing.arena.table ≡ m0.growing.arena.table = table_stays m0 m2 g in
    let t3 : m3.growing.arena.table ≡ m0.growing.arena.table = table_stays m2 m3 keeps.goes ∙ t2 in
    let t4 : m4.growing.arena.table ≡ m0.growing.arena.table = table_stays m3 m4 also.goes ∙ t3 in
    let at3 : m3.reader.walk ≡ a.1 = read.walk ∙ (λ j. (inner (tree_at (t2 j) t) (at2 j)).1) in
    let at4 : m4.reader.walk ≡ b.1 = next_read.walk ∙ (λ j. (inner (tree_at (t3 j) t) (at3 j)).1) in
    let g3 = goes_two m0 m2 m3 g keeps.goes in
    made_read k m0 m4 m5 (pair_of opcode bits (typed_of t left) (typed_of t right)) answer (m.Binary o.0 f.0 u a.0 u b.0) b.1 at4 made
    (λ c same unbroken declared.
    let bits_is : bits ≡ f.0 = exact unbroken bits_are ∙ (λ j. ((flags (op.value j)).read (at1 j)).0) in
    pair_value m4.growing.arena m4.growing.arena opcode bits t left right (inner (tree_at m2.growing.arena.table t) m2.reader.walk).0 (inner (tree_at m3.growing.arena.table t) m3.reader.walk).0 m4.reader.walk m4.reader.walk c
    (kept_stays m3 m4 left (inner (tree_at m2.growing.arena.table t) m2.reader.walk).0 also.goes (read.kept (still_declared m0 m2 k g declared)))
    (next_read.kept (still_declared m0 m3 k g3 declared)) same
    ∙ (λ j. m.Binary (op.value j) (bits_is j) (tree_at (t4 j) t) (inner (tree_at (t2 j) t) (at2 j)).0 (tree_at (t4 j) t) (inner (tree_at (t3 j) t) (at3 j)).0))
  where
    exact : is_broken m4.reader.walk ≡ false → IsBroken r2.walk ⊎ (bits ≡ ((flags opcode).read r1.walk).0) → bits ≡ ((flags opcode).read r1.walk).0
    exact unbroken (inr same) = same
    exact unbroken (inl broken) =
        let here : IsBroken m2.reader.walk = ap (λ (x : ModuleReader). is_broken x.reader.walk) is ∙ broken in
        let there : is_broken m4.reader.walk ≡ true = also.goes.lasts (keeps.goes.lasts here) in
        absurd (cc)

-- ---- addresses

address_value : (a : Lists) (bits : ℕ) (source : Option ℕ) (pid : ℕ) (base : Option ℕ) (operands : Option (List TypedConst)) (cs : m.Constants) (v : m.Constant) (w x : Walk) (c : Const) → IsKept (AreIndices (typed_of (Some pid) base) a) operands cs w
    → IsKept (IsConstant a) base v x → address_of bits source operands ≡ Some c → constant_in a c ≡ m.ElementAddress bits (tree_at a.table source) (m.more_constants (tree a.table pid) v cs)
address_value a bits None pid base operands cs v w x c kept also is = absurd (cc)
address_value a bits (Some s) pid base None cs v w x c kept also is = absurd (cc)
address_value a bits (Some s) pid None (Some ps) cs v w x c kept also is = absurd kept
address_value a bits (Some s) pid (Some id) (Some ps) cs v w x c kept also is =
    ap (constant_in a) (sym (some-equal is)) ∙ ap (m.ElementAddress bits (tree a.table s)) (kept ∙ ap (λ (y : m.Constant). m.more_constants (tree a.table pid) y cs) also.constant)

pub element_read : (k : Numbering) (inner : constants.Reads) (m0 m2 m3 m4 m5 m6 : ModuleReader) (r1 r2 : Reader) (fits : Bool) (bits pid : ℕ) (t source base : Option ℕ) (operands : Option (List TypedConst)) (answer : Option ℕ)
    → fits ≡ is_pointer (tree_at m0.growing.arena.table t) → r1 ≡ record m0.reader { walk = ask 6 fits m0.reader.walk }
    → IsBroken r2.walk ⊎ (bits ≡ ((flags GetElementPtr).read r1.walk).0) → r2 ≡ record r1 { walk = ((flags GetElementPtr).read r1.walk).1 } → m2 ≡ record m0 { reader = r2 } → Goes m0 m2
    → Goes m2 m3 → ReadsType k m2 m3 source → tree m3.growing.arena.table pid ≡ ptr
    → Keeps HasConstant m3 m4 base → IsRead k IsConstant (inner (tree_at m3.growing.arena.table (Some pid)) m3.reader.walk) m3 m4 base
    → Keeps HasAll m4 m5 operands → IsRead k (AreIndices (typed_of (Some pid) base)) (constants.typed (ty k) inner (next m4.reader.walk).0 (next m4.reader.walk).1) m4 m5 operands
    → KeepsMade m5 (address_of bits source operands) m6 answer → IsRead k IsConstant (constants.element k inner (tree_at m0.growing.arena.table t) m0.reader.walk) m0 m6 answer
element_read k inner m0 m2 m3 m4 m5 m6 r1 r2 fits bits pid t source base operands answer fit asked bits_are flags_read is g goes3 source_read pointer keeps read also indices made =
    let w1 = ask 6 (is_pointer (tree_at m0.growing.arena.table t)) m0.reader.walk in
    let f = (flags GetElementPtr).read w1 in
    let s = (ty k).read f.1 in
    let b = inner ptr s.1 in
    let i = constants.typed (ty k) inner (next b.1).0 (next b.1).1 in
    let at1 : r1.walk ≡ w1 = ap (λ (q : Reader). q.walk) asked ∙ ap (λ x. ask 6 x m0.reader.walk) fit in
    let at2 : m2.reader.walk ≡ f.1 = ap (λ (x : ModuleReader). x.reader.walk) is ∙ (ap (λ (q : Reader). q.walk) flags_read ∙ ap (λ w. ((flags GetElementPtr).read w).1) at1) in
    let t2 : m2.growing.arena.table ≡ m0.growing.arena.table = table_stays m0 m2 g in
    let t3 : m3.growing.arena.table ≡ m0.growing.arena.table = table_stays m2 m3 goes3 ∙ t2 in
    let g3 = goes_two m0 m2 m3 g goes3 in
    let g4 = goes_two m0 m3 m4 g3 keeps.goes in
    let t5 : m5.growing.arena.table ≡ m3.growing.arena.table = table_stays m4 m5 also.goes ∙ table_stays m3 m4 keeps.goes in
    let at3 : m3.reader.walk ≡ s.1 = ap (λ (q : Reader). q.walk) source_read.reader ∙ ap (λ w. ((ty k).read w).1) at2 in
    let source_is : tree_at m2.growing.arena.table source ≡ s.0 = source_read.tree_is ∙ ap (λ w. ((ty k).read w).0) at2 in
    let at4 : m4.reader.walk ≡ b.1 = read.walk ∙ (λ j. (inner (pointer j) (at3 j)).1) in
    let at5 : m5.reader.walk ≡ i.1 = indices.walk ∙ ap (λ w. (constants.typed (ty k) inner (next w).0 (next w).1).1) at4 in
    made_read k m0 m5 m6 (address_of bits source operands) answer (m.ElementAddress f.0 s.0 (m.more_constants ptr b.0 i.0)) i.1 at5 made
    (λ c same unbroken declared.
    let bits_is : bits ≡ f.0 = exact unbroken bits_are ∙ ap (λ w. ((flags GetElementPtr).read w).0) at1 in
    let source_at : tree_at m5.growing.arena.table source ≡ s.0 = ap (λ (x : Types). tree_at x source) (t5 ∙ table_stays m2 m3 goes3) ∙ source_is in
    address_value m5.growing.arena bits source pid base operands (constants.typed (ty k) inner (next m4.reader.walk).0 (next m4.reader.walk).1).0 (inner (tree_at m3.growing.arena.table (Some pid)) m3.reader.walk).0 m5.reader.walk m5.reader.walk c
    (indices.kept (still_declared m0 m4 k g4 declared))
    (kept_stays m4 m5 base (inner (tree_at m3.growing.arena.table (Some pid)) m3.reader.walk).0 also.goes (read.kept (still_declared m0 m3 k g3 declared))) same
    ∙ (λ j. m.ElementAddress (bits_is j) (source_at j) (m.more_constants ((ap (λ (x : Types). tree x pid) t5 ∙ pointer) j) (inner (pointer j) (at3 j)).0 (constants.typed (ty k) inner (next (at4 j)).0 (next (at4 j)).1).0)))
  where
    exact : is_broken m5.reader.walk ≡ false → IsBroken r2.walk ⊎ (bits ≡ ((flags GetElementPtr).read r1.walk).0) → bits ≡ ((flags GetElementPtr).read r1.walk).0
    exact unbroken (inr same) = same
    exact unbroken (inl broken) =
        let here : IsBroken m2.reader.walk = ap (λ (x : ModuleReader). is_broken x.reader.walk) is ∙ broken in
        let there : is_broken m5.reader.walk ≡ true = also.goes.lasts (keeps.goes.lasts (goes3.lasts here)) in
        absurd (cc)

-- ---- what a call gives behind another

pub goes_number : (a : ModuleReader) (r : Reader) (n : ℕ) → Reads number a.reader r n → Goes a (record a { reader = r })
goes_number a r n reads =
    let at : r.walk ≡ (next a.reader.walk).1 = ap (λ (q : Reader). q.walk) reads.reader in
    goes_reader a (record a { reader = r }) r refl (reads.reader ∙ ap (λ w. record a.reader { walk = w }) (sym at)) (λ broken. subst IsBroken (sym at) (next_still a.reader.walk broken))

pub keeps_behind : {B : Type 0} (has : Lists → B → Type 0) (a b c : ModuleReader) (answer : Option B) → Goes a b → Keeps has b c answer → Keeps has a c answer
keeps_behind has a b c answer g h = record { goes = goes_two a b c g h.goes; there = h.there }

pub read_behind : (k : Numbering) (a b c : ModuleReader) (x y : m.Constant × Walk) (answer : Option ℕ) → Goes a b → x ≡ y → IsRead k IsConstant x b c answer → IsRead k IsConstant y a c answer
read_behind k a b c x y answer g is h =
    subst (λ z. IsRead k IsConstant z a c answer) is (record { walk = h.walk; kept = λ declared. h.kept (still_declared a b k g declared) })

-- a code, and the constant behind it
pub nested_is : (k : Numbering) (depth : ℕ) (t : Tree) (w v : Walk) (n : ℕ) → n ≡ (next w).0 → v ≡ (next w).1 → constants.by_code k (inner_of k depth) n t v ≡ constants.read_nested k depth t w
unfolding constants.read_nested
nested_is k zero t w v n is at = λ j. constants.by_code k None (is j) t (at j)
nested_is k (suc depth) t w v n is at = λ j. constants.by_code k (Some (constants.read_nested k depth)) (is j) t (at j)

-- the form with that code
pub form_is : (k : Numbering) (inner : Option constants.Reads) (code : ℕ) (form : Option the_form.ConstantForm) (t : Tree) (w : Walk) → option_map form_view form ≡ constants.form_of_code code → constants.of_form k inner (option_map form_view form) t w ≡ constants.by_code k inner code t w
form_is k inner code form t w is = ap (λ (f : Option constants.ConstantForm). constants.of_form k inner f t w) is

module _ (k : Numbering) (inner : Option constants.Reads) (t : Tree) (w : Walk) where
  pub number_form : constants.integer t w ≡ constants.of_form k inner (Some constants.Number) t w
  unfolding constants.of_form
  number_form = refl

  pub null_form : constants.of_form k None (Some constants.NullPointer) t w ≡ constants.of_form k inner (Some constants.NullPointer) t w
  unfolding constants.of_form
  null_form = refl

  pub address_form : constants.of_form k None (Some constants.Global) t w ≡ constants.of_form k inner (Some constants.Global) t w
  unfolding constants.of_form
  address_form = refl

  pub string_form : constants.of_form k None (Some constants.Bytewise) t w ≡ constants.of_form k inner (Some constants.Bytewise) t w
  unfolding constants.of_form
  string_form = refl

  pub undef_form : constants.of_form k inner (Some constants.Undefined) t w ≡ (m.Undef, w)
  unfolding constants.of_form
  undef_form = refl

  pub poison_form : constants.of_form k inner (Some constants.Poisoned) t w ≡ (m.Poison, w)
  unfolding constants.of_form
  poison_form = refl

  pub zero_form : constants.of_form k inner (Some constants.Zero) t w ≡ (m.ZeroInitializer, w)
  unfolding constants.of_form
  zero_form = refl

  pub no_form : constants.of_form k inner None t w ≡ (m.Undef, stop 3 w)
  unfolding constants.of_form
  no_form = refl

  pub no_room : (form : the_nested.NestedForm) → constants.of_form k None (Some (nested_form form)) t w ≡ (m.Undef, stop 7 w)
  unfolding constants.of_form
  no_room nested.List = refl
  no_room nested.Address = refl
  no_room nested.Cast = refl
  no_room nested.Pair = refl

module _ (k : Numbering) (inner : constants.Reads) (t : Tree) (w : Walk) where
  pub list_form : constants.listed k inner t w ≡ constants.of_form k (Some inner) (Some constants.Listed) t w
  unfolding constants.of_form
  list_form = refl

  pub element_form : constants.element k inner t w ≡ constants.of_form k (Some inner) (Some constants.Element) t w
  unfolding constants.of_form
  element_form = refl

  pub cast_form : constants.converted k inner t w ≡ constants.of_form k (Some inner) (Some constants.Converted) t w
  unfolding constants.of_form
  cast_form = refl

  pub pair_form : constants.computed k inner t w ≡ constants.of_form k (Some inner) (Some constants.Computed) t w
  unfolding constants.of_form
  pair_form = refl

-- nothing is kept behind a rule that stops
pub stopped_read : (k : Numbering) (a b : ModuleReader) (answer : Option ℕ) (rule : ℕ) (x : m.Constant × Walk) → Keeps HasConstant a b answer → b.reader.walk ≡ stop rule a.reader.walk → answer ≡ None → x ≡ (m.Undef, stop rule a.reader.walk) → IsRead k IsConstant x a b answer
stopped_read k a b answer rule x keeps at none is =
    let there : IsBroken b.reader.walk = (subst (Keeps HasConstant a b) none keeps).there in
    subst (λ z. IsRead k IsConstant z a b answer) (sym is) (subst (IsRead k IsConstant (m.Undef, stop rule a.reader.walk) a b) (sym none) (none_read k a b m.Undef (stop rule a.reader.walk) at there))

-- the form with that code
pub coded_at : (k : Numbering) (inner : Option constants.Reads) (code : ℕ) (t : Tree) (w : Walk) (form : constants.ConstantForm) → Some form ≡ constants.form_of_code code → constants.of_form k inner (Some form) t w ≡ constants.by_code k inner code t w
coded_at k inner code t w form is = ap (λ (f : Option constants.ConstantForm). constants.of_form k inner f t w) is

-- one less, where there is room
pub inner_is : (k : Numbering) (depth : ℕ) → (depth ≡ 0 → ⊥) → Some (constants.read_nested k (depth - 1)) ≡ inner_of k depth
inner_is k zero some = absurd (some refl)
inner_is k (suc depth) some = ap (λ n. Some (constants.read_nested k n)) (one_less depth)
  where
    one_less : (n : ℕ) → suc n - 1 ≡ n
    one_less n = omega arith

-- ---- operands in front

pub goes_walk : (a : ModuleReader) (r : Reader) (w : Walk) → r ≡ record a.reader { walk = w } → (IsBroken a.reader.walk → IsBroken w) → Goes a (record a { reader = r })
goes_walk a r w is lasts =
    let at : r.walk ≡ w = ap (λ (q : Reader). q.walk) is in
    goes_reader a (record a { reader = r }) r refl (is ∙ ap (λ v. record a.reader { walk = v }) (sym at)) (λ broken. subst IsBroken (sym at) (lasts broken))

found_still : (other : Opcode) (o : Option Opcode) (w : Walk) → IsBroken w → IsBroken (found_or other o w).1
found_still other None w h = ask_still 3 false w h
found_still other (Some x) w h = h

pub goes_cast_opcode : (a : ModuleReader) (r : Reader) (opcode : Opcode) → Reads constants.cast_opcode a.reader r opcode → Goes a (record a { reader = r })
goes_cast_opcode a r opcode reads = goes_walk a r (constants.cast_opcode.read a.reader.walk).1 reads.reader (λ broken. found_still _ _ (next a.reader.walk).1 (next_still a.reader.walk broken))

pub goes_binary_opcode : (a : ModuleReader) (r : Reader) (opcode : Opcode) → Reads constants.binary_opcode a.reader r opcode → Goes a (record a { reader = r })
goes_binary_opcode a r opcode reads = goes_walk a r (constants.binary_opcode.read a.reader.walk).1 reads.reader (λ broken. found_still _ _ (next a.reader.walk).1 (next_still a.reader.walk broken))

pub goes_flags : (a : ModuleReader) (r : Reader) (opcode : Opcode) → r ≡ record a.reader { walk = ((flags opcode).read a.reader.walk).1 } → Goes a (record a { reader = r })
goes_flags a r opcode is = goes_walk a r ((flags opcode).read a.reader.walk).1 is (λ broken. ask_still 3 _ (next a.reader.walk).1 (next_still a.reader.walk broken))

-- a constant that is there stays so
pub there_stays : (a b : ModuleReader) (value : Option ℕ) → Goes a b → IsThere (HasConstant a.growing.arena) value a.reader.walk → IsThere (HasConstant b.growing.arena) value b.reader.walk
there_stays a b None g h = g.lasts h
there_stays a b (Some id) g h = (g.grows.constants id h).known

pub base_stays : (a b : ModuleReader) (o : Option TypedConst) → Goes a b → IsThere (HasTyped a.growing.arena) o a.reader.walk → IsThere (HasTyped b.growing.arena) o b.reader.walk
base_stays a b None g h = g.lasts h
base_stays a b (Some part) g h = (subst (λ (t : Types). part.ty < length t.types) (sym (table_stays a b g)) h.0, (g.grows.constants part.value h.1).known)

-- a type of the table is known, where there is one unless a rule is broken
pub within_known : (a : ModuleReader) (o : Option ℕ) → IfSome o (λ id. id < length a.growing.arena.table.types) → (is_broken a.reader.walk ≡ false → is_some o ≡ true) → IsKnownType a o
within_known a (Some id) h there = h
within_known a None h there = by (is_broken a.reader.walk) refl
  where
    by : (b : Bool) → is_broken a.reader.walk ≡ b → IsBroken a.reader.walk
    by true e = e
    by false e = let some : false ≡ true = there e in absurd (cc)
