-- Constants that hold no others: how they are read, and that they are in the arena.
use Rattle.std.proofs.Common.{◌≡◌, ◌≤◌, ◌<◌, ◌+◌, ◌*◌, ◌^◌, ℕ, zero, suc, Bool, true, false, cond, List, [], ◌∷◌, Option, Some, None, length, All, refl, sym, ap, subst, ◌∙◌, arith}
use Rattle.std.specs.Prelude.{nat_lt, nat_le}
use Rattle.std.proofs.lemmas.Bool.{le-leb, lt-leb}
use Rattle.type_table.specs.Tree.{Tree, int, ptr, void, array, struct, named}
use Rattle.module_arena.specs.declared.constant.Const.{Const}
use Rattle.module_arena.specs.declared.constant.Const.TheVariants as const
use Rattle.module_arena.specs.declared.constant.TypedConst.{TypedConst}
use Rattle.module_arena.specs.declared.entry.GlobalId.{GlobalId}
use Rattle.module_arena.specs.Changes.{constant_in}
use Rattle.module_arena.specs.Constants.{is_bytes_of}
use Rattle.module_arena.specs.Known.{Counts, HasGlobal, KnowsConst}
use Rattle.module_arena.specs.Lists.{Lists}
use Rattle.module_arena.specs.Mentions.{typed_in, types_in, globals_in}
use Rattle.module_arena.specs.Module as m
use Rattle.module_arena.specs.TypeTests.{is_pointer, width_of}
use Rattle.record_table.specs.Walk.{Walk, ask, stop, next}
use Rattle.record_table.specs.Layout.{number}
use Rattle.record_table.specs.Fields.{Numbering, global, text}
use Rattle.record_table.specs.Constants as constants
use Rattle.record_read.specs.Reader.{Reader, Reads, IsBroken, is_broken}
use Rattle.record_read.specs.Fields.{ReadsBytes}
use Rattle.record_read.proofs.Asking.{tells_no_more, is_broken_by}
use Rattle.type_read.specs.declared.arena.module_reader.ModuleReader.{ModuleReader}
use Rattle.type_read.specs.Arena.Growing.{IsConstant}
use Rattle.type_read.specs.Arena.Numbered.{ReadsGlobal}
use Rattle.type_read.specs.Arena.Kept.{Goes, TakesOnly, Keeps, IsRead, HasConstant, KeepsConstant, tree_at}
use Rattle.type_read.proofs.OnArena.Lasting.{next_still, ask_still, stop_still, text_still}
use Rattle.type_read.proofs.OnArena.Steps.{goes_reader, goes_two, kept_keeps, kept_read, none_keeps, none_read}

-- a constant that mentions nothing
pub knows_none : (types : ℕ) (n : Counts) (count : ℕ) (c : Const) → types_in c ≡ [] → typed_in c ≡ [] → globals_in c ≡ [] → KnowsConst types n count c
knows_none types n count c no_types no_typed no_globals = record {
  types_known = subst (All (λ ty. ty < types)) (sym no_types) (λ k d lt. absurd (omega arith));
  typed_known = subst (All (λ (t : TypedConst). (t.ty < types) × (t.value < count))) (sym no_typed) (λ k d lt. absurd (omega arith));
  globals_known = subst (All (HasGlobal n)) (sym no_globals) (λ k d lt. absurd (omega arith));
}

-- an address
pub knows_address : (types : ℕ) (n : Counts) (count : ℕ) (id : GlobalId) → HasGlobal n id → KnowsConst types n count (const.Address id)
knows_address types n count id h = record {
  types_known = λ k d lt. absurd (omega arith);
  typed_known = λ k d lt. absurd (omega arith);
  globals_known = one;
}
  where
    one : All (HasGlobal n) (id ∷ [])
    one zero d lt = h
    one (suc k) d lt = absurd (omega arith)

-- operands are taken
pub goes_takes : (a b : ModuleReader) → TakesOnly a b → Goes a b
goes_takes a b h = goes_reader a b (record a.reader { walk = b.reader.walk }) h.rest refl h.lasts

-- a rule is asked
pub goes_asked : (a : ModuleReader) (r : Reader) (rule : ℕ) (b : Bool) → r ≡ record a.reader { walk = ask rule b a.reader.walk } → Goes a (record a { reader = r })
goes_asked a r rule b is =
    let at : r.walk ≡ ask rule b a.reader.walk = ap (λ (q : Reader). q.walk) is in
    goes_reader a (record a { reader = r }) r refl (is ∙ ap (λ w. record a.reader { walk = w }) (sym at)) (λ broken. subst IsBroken (sym at) (ask_still rule b a.reader.walk broken))

-- what follows is not known
pub goes_stopped : (a : ModuleReader) (r : Reader) (rule : ℕ) → r ≡ record a.reader { walk = stop rule a.reader.walk } → Goes a (record a { reader = r })
goes_stopped a r rule is =
    let at : r.walk ≡ stop rule a.reader.walk = ap (λ (q : Reader). q.walk) is in
    goes_reader a (record a { reader = r }) r refl (is ∙ ap (λ w. record a.reader { walk = w }) (sym at)) (λ broken. subst IsBroken (sym at) (stop_still rule a.reader.walk broken))

-- ---- integers

integer_short : (width : ℕ) (w : Walk) → width ≤ 64 → constants.integer (int width) w ≡ constants.integer_at width (next w).0 (next w).1
unfolding constants.integer
integer_short width w le = ap (λ (b : Bool). cond b (constants.integer_at width (next w).0 (next w).1) (constants.integer_at width ((next w).0 + 2 ^ 64 * (next (next w).1).0) (next (next w).1).1)) (le-leb width 64 le)

integer_long : (width : ℕ) (w : Walk) → 64 < width → constants.integer (int width) w ≡ constants.integer_at width ((next w).0 + 2 ^ 64 * (next (next w).1).0) (next (next w).1).1
unfolding constants.integer
integer_long width w lt = ap (λ (b : Bool). cond b (constants.integer_at width (next w).0 (next w).1) (constants.integer_at width ((next w).0 + 2 ^ 64 * (next (next w).1).0) (next (next w).1).1)) (lt-leb width 64 lt)

-- a number of that width was read
pub record ReadsNumber (width : ℕ) (old new : Reader) (n : ℕ) : Type 0 where
  pub value : m.Integer n ≡ (constants.integer (int width) old.walk).0
  pub reader : new ≡ record old { walk = (constants.integer (int width) old.walk).1 }

pub number_short : (width : ℕ) (old mid new : Reader) (n : ℕ) (fit : Bool) → width ≤ 64 → Reads number old mid n → fit ≡ nat_lt n (2 ^ width) → new ≡ record mid { walk = ask 3 fit mid.walk } → ReadsNumber width old new n
number_short width old mid new n fit le reads is asked = record {
  value = ap m.Integer reads.value ∙ ap (λ (x : m.Constant × Walk). x.0) (sym (integer_short width old.walk le));
  reader = asked ∙ (ap (λ (r : Reader). record r { walk = ask 3 fit r.walk }) reads.reader
      ∙ (ap (λ b. record old { walk = ask 3 b (next old.walk).1 }) (is ∙ ap (λ k. nat_lt k (2 ^ width)) reads.value)
      ∙ ap (λ (x : m.Constant × Walk). record old { walk = x.1 }) (sym (integer_short width old.walk le))));
}

pub number_long : (width : ℕ) (old mid last new : Reader) (low high n : ℕ) (fit : Bool) → 64 < width → Reads number old mid low → Reads number mid last high → n ≡ low + 2 ^ 64 * high → fit ≡ nat_lt n (2 ^ width)
    → new ≡ record last { walk = ask 3 fit last.walk } → ReadsNumber width old new n
number_long width old mid last new low high n fit lt first second sum is asked =
    let behind : mid.walk ≡ (next old.walk).1 = ap (λ (r : Reader). r.walk) first.reader in
    let high_is : high ≡ (next (next old.walk).1).0 = second.value ∙ ap (λ w. (next w).0) behind in
    let value : n ≡ (next old.walk).0 + 2 ^ 64 * (next (next old.walk).1).0 = sum ∙ (λ j. first.value j + 2 ^ 64 * high_is j) in
    let at : last ≡ record old { walk = (next (next old.walk).1).1 } = second.reader ∙ (ap (λ (r : Reader). record r { walk = (next r.walk).1 }) first.reader) in
    record {
      value = ap m.Integer value ∙ ap (λ (x : m.Constant × Walk). x.0) (sym (integer_long width old.walk lt));
      reader = asked ∙ (ap (λ (r : Reader). record r { walk = ask 3 fit r.walk }) at
          ∙ (ap (λ b. record old { walk = ask 3 b (next (next old.walk).1).1 }) (is ∙ ap (λ k. nat_lt k (2 ^ width)) value)
          ∙ ap (λ (x : m.Constant × Walk). record old { walk = x.1 }) (sym (integer_long width old.walk lt))));
    }

integer_still : (width : ℕ) (w : Walk) → IsBroken w → IsBroken (constants.integer (int width) w).1
unfolding constants.integer
integer_still width w h = by (nat_le width 64)
  where
    by : (b : Bool) → IsBroken (cond b (constants.integer_at width (next w).0 (next w).1) (constants.integer_at width ((next w).0 + 2 ^ 64 * (next (next w).1).0) (next (next w).1).1)).1
    by true = ask_still 3 (nat_lt (next w).0 (2 ^ width)) (next w).1 (next_still w h)
    by false = ask_still 3 (nat_lt ((next w).0 + 2 ^ 64 * (next (next w).1).0) (2 ^ width)) (next (next w).1).1 (next_still (next w).1 (next_still w h))

-- at another type
integer_other : (t : Tree) (w : Walk) → width_of t ≡ None → constants.integer t w ≡ (m.Undef, stop 6 w)
unfolding constants.integer
integer_other (int width) w none = absurd (cc)
integer_other ptr w none = refl
integer_other void w none = refl
integer_other (array n t) w none = refl
integer_other (struct packed ts) w none = refl
integer_other (named name) w none = refl

tree_of_width : (t : Tree) (width : ℕ) → Some width ≡ width_of t → t ≡ int width
tree_of_width (int n) width is = let same : n ≡ width = cc in ap int same
tree_of_width ptr width is = absurd (cc)
tree_of_width void width is = absurd (cc)
tree_of_width (array n t) width is = absurd (cc)
tree_of_width (struct packed ts) width is = absurd (cc)
tree_of_width (named name) width is = absurd (cc)

module _ (m0 new : ModuleReader) (ty : Option ℕ) (r : Reader) where
  abbrev at_type : Tree
  at_type = tree_at m0.growing.arena.table ty

  integer_goes : (width n : ℕ) → ReadsNumber width m0.reader r n → Goes m0 (record m0 { reader = r })
  integer_goes width n reads =
      let at : r.walk ≡ (constants.integer (int width) m0.reader.walk).1 = ap (λ (q : Reader). q.walk) reads.reader in
      goes_reader m0 (record m0 { reader = r }) r refl (reads.reader ∙ ap (λ w. record m0.reader { walk = w }) (sym at)) (λ broken. subst IsBroken (sym at) (integer_still width m0.reader.walk broken))

  pub integer_keeps : (width n : ℕ) (answer : Option ℕ) → ReadsNumber width m0.reader r n → KeepsConstant (record m0 { reader = r }) (const.Integer n) new answer → Keeps HasConstant m0 new answer
  integer_keeps width n answer reads h = kept_keeps m0 (record m0 { reader = r }) new (const.Integer n) answer (integer_goes width n reads) h

  pub integer_read : (k : Numbering) (width n : ℕ) (answer : Option ℕ) → Some width ≡ width_of at_type → ReadsNumber width m0.reader r n → KeepsConstant (record m0 { reader = r }) (const.Integer n) new answer
      → IsRead k IsConstant (constants.integer at_type m0.reader.walk) m0 new answer
  integer_read k width n answer is reads h =
      subst (λ t. IsRead k IsConstant (constants.integer t m0.reader.walk) m0 new answer) (sym (tree_of_width at_type width is))
      (kept_read k m0 (record m0 { reader = r }) new (const.Integer n) answer (constants.integer (int width) m0.reader.walk).0 (constants.integer (int width) m0.reader.walk).1 (ap (λ (q : Reader). q.walk) reads.reader) h (λ unbroken declared. reads.value))

  pub no_integer_read : (k : Numbering) → None ≡ width_of at_type → r ≡ record m0.reader { walk = stop 6 m0.reader.walk } → IsBroken r.walk → IsRead k IsConstant (constants.integer at_type m0.reader.walk) m0 (record m0 { reader = r }) None
  no_integer_read k none is broken =
      subst (λ x. IsRead k IsConstant x m0 (record m0 { reader = r }) None) (sym (integer_other at_type m0.reader.walk (sym none)))
      (none_read k m0 (record m0 { reader = r }) m.Undef (stop 6 m0.reader.walk) (ap (λ (q : Reader). q.walk) is) broken)

  -- ---- `null`

  pub null_read : (k : Numbering) (fits : Bool) (answer : Option ℕ) → fits ≡ is_pointer at_type → r ≡ record m0.reader { walk = ask 6 fits m0.reader.walk } → KeepsConstant (record m0 { reader = r }) const.Null new answer
      → IsRead k IsConstant (constants.of_form k None (Some constants.NullPointer) at_type m0.reader.walk) m0 new answer
  unfolding constants.of_form
  null_read k fits answer fit is h =
      kept_read k m0 (record m0 { reader = r }) new const.Null answer m.Null (ask 6 (is_pointer at_type) m0.reader.walk) (ap (λ (q : Reader). q.walk) is ∙ ap (λ b. ask 6 b m0.reader.walk) fit) h (λ unbroken declared. refl)

-- ---- addresses

module _ (m0 m2 new : ModuleReader) (ty : Option ℕ) (r : Reader) (k : Numbering) (fits : Bool) (answer : Option ℕ) where
  abbrev m1 : ModuleReader
  m1 = record m0 { reader = r }

  abbrev asked : Walk
  asked = ask 6 (is_pointer (tree_at m0.growing.arena.table ty)) m0.reader.walk

  address_walk : (id : Option GlobalId) → fits ≡ is_pointer (tree_at m0.growing.arena.table ty) → r ≡ record m0.reader { walk = ask 6 fits m0.reader.walk } → ReadsGlobal k (global k) m1 m2 id → m2.reader.walk ≡ ((global k).read asked).1
  address_walk id fit is reads =
      let at : r.walk ≡ asked = ap (λ (q : Reader). q.walk) is ∙ ap (λ b. ask 6 b m0.reader.walk) fit in
      ap (λ (q : Reader). q.walk) reads.reader ∙ ap (λ w. ((global k).read w).1) at

  pub address_read : (id : GlobalId) → fits ≡ is_pointer (tree_at m0.growing.arena.table ty) → r ≡ record m0.reader { walk = ask 6 fits m0.reader.walk } → TakesOnly m1 m2 → ReadsGlobal k (global k) m1 m2 (Some id) → KeepsConstant m2 (const.Address id) new answer
      → IsRead k IsConstant (constants.of_form k None (Some constants.Global) (tree_at m0.growing.arena.table ty) m0.reader.walk) m0 new answer
  unfolding constants.of_form
  address_read id fit is takes reads h =
      let at : r.walk ≡ asked = ap (λ (q : Reader). q.walk) is ∙ ap (λ b. ask 6 b m0.reader.walk) fit in
      let same : m2.growing.arena ≡ m0.growing.arena = ap (λ (x : ModuleReader). x.growing.arena) takes.rest in
      kept_read k m0 m2 new (const.Address id) answer (m.Address ((global k).read asked).0) ((global k).read asked).1 (address_walk (Some id) fit is reads) h
      (λ unbroken declared.
      let named = (reads.kept declared).named in
      ap (λ (a : Lists). constant_in a (const.Address id)) same ∙ ap m.Address (named ∙ ap (λ w. ((global k).read w).0) at))

  pub no_address_read : fits ≡ is_pointer (tree_at m0.growing.arena.table ty) → r ≡ record m0.reader { walk = ask 6 fits m0.reader.walk } → ReadsGlobal k (global k) m1 m2 None → KeepsConstant m2 const.Null new answer
      → IsRead k IsConstant (constants.of_form k None (Some constants.Global) (tree_at m0.growing.arena.table ty) m0.reader.walk) m0 new answer
  unfolding constants.of_form
  no_address_read fit is reads h =
      kept_read k m0 m2 new const.Null answer (m.Address ((global k).read asked).0) ((global k).read asked).1 (address_walk None fit is reads) h
      (λ unbroken declared. let broken : is_broken m2.reader.walk ≡ true = reads.kept declared in absurd (cc))

-- ---- byte strings

pub text_lasts : (old r : Reader) (answer : Option (List ℕ)) → ReadsBytes text old r answer → IsBroken old.walk → IsBroken r.walk
text_lasts old r answer reads broken = subst IsBroken (sym (ap (λ (q : Reader). q.walk) reads.reader)) (text_still old.walk broken)

module _ (m0 new : ModuleReader) (ty : Option ℕ) (r1 r2 : Reader) where
  abbrev string_type : Tree
  string_type = tree_at m0.growing.arena.table ty

  text_goes : (answer : Option (List ℕ)) → ReadsBytes text m0.reader r1 answer → (IsBroken m0.reader.walk → IsBroken r1.walk) → Goes m0 (record m0 { reader = r1 })
  text_goes answer reads lasts =
      let at : r1.walk ≡ (text.read m0.reader.walk).1 = ap (λ (q : Reader). q.walk) reads.reader in
      goes_reader m0 (record m0 { reader = r1 }) r1 refl (reads.reader ∙ ap (λ w. record m0.reader { walk = w }) (sym at)) lasts

  pub string_keeps : (bytes : List ℕ) (fits : Bool) (answer : Option ℕ) → ReadsBytes text m0.reader r1 (Some bytes) → (IsBroken m0.reader.walk → IsBroken r1.walk) → r2 ≡ record r1 { walk = ask 6 fits r1.walk }
      → KeepsConstant (record m0 { reader = r2 }) (const.ByteString bytes) new answer → Keeps HasConstant m0 new answer
  string_keeps bytes fits answer reads lasts is h =
      kept_keeps m0 (record m0 { reader = r2 }) new (const.ByteString bytes) answer
      (goes_two m0 (record m0 { reader = r1 }) (record m0 { reader = r2 }) (text_goes (Some bytes) reads lasts) (goes_asked (record m0 { reader = r1 }) r2 6 fits is)) h

  pub string_read : (k : Numbering) (bytes : List ℕ) (size : ℕ) (fits : Bool) (answer : Option ℕ) → ReadsBytes text m0.reader r1 (Some bytes) → size ≡ length bytes → fits ≡ is_bytes_of size string_type → r2 ≡ record r1 { walk = ask 6 fits r1.walk }
      → KeepsConstant (record m0 { reader = r2 }) (const.ByteString bytes) new answer → IsRead k IsConstant (constants.of_form k None (Some constants.Bytewise) string_type m0.reader.walk) m0 new answer
  unfolding constants.of_form
  string_read k bytes size fits answer reads long fit is h =
      let value : bytes ≡ (text.read m0.reader.walk).0 = reads.kept in
      let at : r1.walk ≡ (text.read m0.reader.walk).1 = ap (λ (q : Reader). q.walk) reads.reader in
      let test : fits ≡ is_bytes_of (length (text.read m0.reader.walk).0) string_type = fit ∙ ap (λ n. is_bytes_of n string_type) (long ∙ ap length value) in
      kept_read k m0 (record m0 { reader = r2 }) new (const.ByteString bytes) answer (m.ByteString (text.read m0.reader.walk).0) (ask 6 (is_bytes_of (length (text.read m0.reader.walk).0) string_type) (text.read m0.reader.walk).1)
      (ap (λ (q : Reader). q.walk) is ∙ (λ j. ask 6 (test j) (at j))) h (λ unbroken declared. ap m.ByteString value)

  pub no_string_keeps : ReadsBytes text m0.reader r1 None → (IsBroken m0.reader.walk → IsBroken r1.walk) → Keeps HasConstant m0 (record m0 { reader = r1 }) None
  no_string_keeps reads lasts = none_keeps m0 (record m0 { reader = r1 }) (text_goes None reads lasts) (is_broken_by 3 r1.walk reads.kept.1)

  pub no_string_read : (k : Numbering) → ReadsBytes text m0.reader r1 None → IsRead k IsConstant (constants.of_form k None (Some constants.Bytewise) string_type m0.reader.walk) m0 (record m0 { reader = r1 }) None
  unfolding constants.of_form
  no_string_read k reads =
      let at : r1.walk ≡ (text.read m0.reader.walk).1 = ap (λ (q : Reader). q.walk) reads.reader in
      let same = tells_no_more 6 3 (is_bytes_of (length (text.read m0.reader.walk).0) string_type) r1.walk (omega arith) reads.kept.1 in
      none_read k m0 (record m0 { reader = r1 }) (m.ByteString (text.read m0.reader.walk).0) (ask 6 (is_bytes_of (length (text.read m0.reader.walk).0) string_type) (text.read m0.reader.walk).1)
      (sym same ∙ ap (λ w. ask 6 (is_bytes_of (length (text.read m0.reader.walk).0) string_type) w) at) (is_broken_by 3 r1.walk reads.kept.1)
