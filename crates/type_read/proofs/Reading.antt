-- A block of types in the reading: what was read so far, and what is to come.
use Rattle.std.proofs.Common.{◌≡◌, ◌≤◌, ◌<◌, ◌&&◌, ◌^◌, ◌+◌, ℕ, zero, suc, cond, arith, List, [], ◌∷◌, ◌++◌, Option, Some, None, length, map, refl, sym, ap, subst, ◌∙◌}
use Rattle.std.specs.Prelude.{nat_eq, true, false, Bool, Ok, Err, slice_get}
use Rattle.std.specs.List.{list_all}
use Rattle.std.proofs.lemmas.Bool.{and_from, and_parts}
use Rattle.std.proofs.lemmas.List.{length-append, length-map}
use Rattle.std.proofs.lemmas.Option.{slice_get_within}
use Rattle.type_table.specs.declared.ir_type.StructBody.{StructBody}
use Rattle.type_table.specs.Types.{names, bodies}
use Rattle.module_arena.specs.Module.{Bytes}
use Rattle.bit_tree.specs.Pieces.{Piece, ended}
use Rattle.module_arena.specs.Lists.{Lists}
use Rattle.record_table.specs.Layout.{judged}
use Rattle.record_table.specs.Fields.{Texts, is_name}
use Rattle.record_table.specs.Faults.{Answer, ◌>>=◌, Records, no_more, a_block, a_record, is_block_id, misplaced, RecordFault, UnknownRecord, BadRecord}
use Rattle.record_table.specs.TypeRecords.{Listed, at_first, listed, listed_by, listed_from, kind_of_code, kinds, are_distinct, called, stand_ins, names_in, definition}
use Rattle.record_read.specs.declared.texts.Texts as the_texts
use Rattle.record_read.specs.Fields.{are_bytes, texts_of}
use Rattle.record_read.specs.Faults.{Answers, IsMisplaced, of_records}
use Rattle.record_read.specs.declared.fault.BitcodeFault.{BitcodeFault}
use Rattle.record_read.specs.declared.fault.BitcodeFault.TheVariants as fault
use Rattle.record_read.specs.Reader.{Reader}
use Rattle.record_read.specs.Entries.{IsBefore, Gives}
use Rattle.record_read.specs.declared.entry.NextEntry.TheVariants.{Block, Record, End}
use Rattle.type_read.specs.Fields.{is_good}
use Rattle.type_read.specs.Listed.{AreNames, AreSoFar, IsListed, IsNamedAs, IsOn, IsReached, IsUndefined, are_good, later_names, only_named}
use Rattle.type_read.specs.declared.structs.StructNames.{StructNames}
use Rattle.type_read.proofs.Apart.{name_apart}

-- what was read so far stands for `s`, and `rest` is to come
pub record IsReading (t : Texts) (whole : Answer Listed) (inside : Records) (others : List Piece) (found : StructNames) (a : Lists) (r : Reader) (defined : ℕ) : Type 0 where
  pub s : Listed
  pub rest : Records
  pub before : IsBefore r.left rest (ended ∷ others)
  pub same : whole ≡ listed_from s rest
  pub texts : s.texts ≡ t
  pub place : r.at ≡ s.at
  pub number : defined ≡ length s.names
  pub listed_is : IsListed a found (names_in t inside) s
  pub so_far : AreSoFar found (names_in t inside) s (names_in t rest)

-- ---- the steps of the loop

-- the body of a struct that is not defined
abbrev pub no_body : {A : Type 0} → A → Option StructBody
no_body x = None

map_none : (ns : List Bytes) → bodies (record { types = []; structs = map (λ name. (name, None)) ns }) ≡ map no_body ns
map_none [] = refl
map_none (n ∷ ns) = ap (λ (l : List (Option StructBody)). None ∷ l) (map_none ns)

map_names : (ns : List Bytes) → names (record { types = []; structs = map (λ name. (name, None)) ns }) ≡ ns
map_names [] = refl
map_names (n ∷ ns) = ap (λ l. n ∷ l) (map_names ns)

-- what is told of a record and of what follows
pub then_ok : {A B : Type 0} (a : Answer A) (x : A) (f : A → Answer B) → a ≡ Ok x → (a >>= f) ≡ f x
then_ok a x f is = ap (λ o. o >>= f) is

-- one record behind what was read so far
pub record IsStep (t : Texts) (whole : Answer Listed) (inside : Records) (others : List Piece) (found : StructNames) (a : Lists) (r : Reader) (defined : ℕ) (code : ℕ) : Type 0 where
  pub s : Listed
  pub operands : List ℕ
  pub behind : Records
  pub before : IsBefore r.left behind (ended ∷ others)
  pub same : whole ≡ (listed_by s code operands (kind_of_code code kinds) >>= λ u. listed_from u behind)
  pub texts : s.texts ≡ t
  pub number : defined ≡ length s.names
  pub on : IsOn a found (names_in t inside) r operands s
  pub so_far : AreSoFar found (names_in t inside) s (names_in t (a_record code operands behind))

-- the entry that `next` gives of what is to come
pub step : (t : Texts) (whole : Answer Listed) (inside : Records) (others : List Piece) (found : StructNames) (a : Lists) (r now : Reader) (defined code : ℕ) → IsReading t whole inside others found a r defined
    → ((all : Records) (rest : List Piece) → IsBefore r.left all rest → Gives all r (Record code) now rest) → IsStep t whole inside others found a now defined code
step t whole inside others found a r now defined code h gives = by_rest h.rest h.same h.so_far (gives h.rest (ended ∷ others) h.before)
  where
    by_rest : (rest : Records) → whole ≡ listed_from h.s rest → AreSoFar found (names_in t inside) h.s (names_in t rest) → Gives rest r (Record code) now (ended ∷ others)
        → IsStep t whole inside others found a now defined code
    by_rest no_more same so_far g = absurd g
    by_rest (a_block id held behind) same so_far g = absurd g
    by_rest (a_record other operands behind) same so_far g = record {
      s = h.s;
      operands = operands;
      behind = behind;
      before = g.3;
      same = same ∙ ap (λ k. listed_by h.s k operands (kind_of_code k kinds) >>= λ u. listed_from u behind) (sym g.0);
      texts = h.texts;
      number = h.number;
      on = record { listed = h.listed_is; walk = g.2; at = g.1 ∙ ap suc h.place };
      so_far = subst (λ k. AreSoFar found (names_in t inside) h.s (names_in t (a_record k operands behind))) (sym g.0) so_far;
    }

-- one record more was given then
pub step_place : (t : Texts) (whole : Answer Listed) (inside : Records) (others : List Piece) (found : StructNames) (a : Lists) (r now : Reader) (defined code : ℕ) → IsReading t whole inside others found a r defined
    → ((all : Records) (rest : List Piece) → IsBefore r.left all rest → Gives all r (Record code) now rest) → now.at ≡ suc r.at
step_place t whole inside others found a r now defined code h gives = by_rest h.rest (gives h.rest (ended ∷ others) h.before)
  where
    by_rest : (rest : Records) → Gives rest r (Record code) now (ended ∷ others) → now.at ≡ suc r.at
    by_rest no_more g = absurd g
    by_rest (a_block id held behind) g = absurd g
    by_rest (a_record other operands behind) g = g.1

-- ---- begin and end

-- nothing is read yet
pub reading_starts : (x : the_texts.Texts) (inside : Records) (others : List Piece) (found : StructNames) (a : Lists) (r : Reader) → IsBefore r.left inside (ended ∷ others) → AreNames (texts_of x) inside found
    → IsNamedAs found (names_in (texts_of x) inside) a → IsReading (texts_of x) (listed (texts_of x) r.at inside) inside others found a r 0
reading_starts x inside others found a r before are named =
    let all = names_in (texts_of x) inside in
    record {
      s = at_first (texts_of x) r.at inside;
      rest = inside;
      before = before;
      same = refl;
      texts = refl;
      place = refl;
      number = refl;
      listed_is = record {
        rest = named.structs.rest;
        types = named.structs.types;
        bodies_are = all_undefined (bodies a.table) (length all) (length-map a.table.structs (λ s. s.1) ∙ named.structs.many) named.structs.undefined ∙ (none_each all (called all) (called_many all) ∙ sym (map_none (called all)));
        called_so = map_names (called all);
        few = are.few;
        named = λ none. named.named none ∙ ap only_named (sym (called_good all (rw none at are.first_bad)));
      };
      so_far = record {
        all_is = refl;
        good = refl;
        first_bad = are.first_bad;
        reached = reached_first found.first_bad;
        undefined = λ id le lt. undefined_at (called all) id (subst (λ n. id < n) (sym (called_many all)) lt);
      };
    }
  where
    reached_first : (o : Option ℕ) → IsReached o 0
    reached_first None = tt
    reached_first (Some place) = zero_least place
      where
        zero_least : (n : ℕ) → 0 ≤ n
        zero_least n = omega arith

    -- as many names as there are records
    called_many : (all : List Bytes) → length (called all) ≡ length all
    called_many all = by_test (list_all is_name all && are_distinct all)
      where
        many_ins : (first : ℕ) (ns : List Bytes) → length (stand_ins first ns) ≡ length ns
        many_ins first [] = refl
        many_ins first (n ∷ ns) = ap suc (many_ins (suc first) ns)

        by_test : (b : Bool) → length (cond b all (stand_ins 0 all)) ≡ length all
        by_test true = refl
        by_test false = many_ins 0 all

    called_good : (all : List Bytes) → are_good all ≡ true → called all ≡ all
    called_good all h =
        let p = and_parts (list_all is_good all) (are_distinct all) h in
        rw (and_from (list_all is_name all) (are_distinct all) (names_alone all p.0) p.1) refl
      where
        names_alone : (ns : List Bytes) → list_all is_good ns ≡ true → list_all is_name ns ≡ true
        names_alone [] e = refl
        names_alone (n ∷ ns) e =
            let q = and_parts (is_good n) (list_all is_good ns) e in
            and_from (is_name n) (list_all is_name ns) (and_parts (is_name n) (are_bytes n) q.0).0 (names_alone ns q.1)

    all_undefined : (bs : List (Option StructBody)) (n : ℕ) → length bs ≡ n → ((id : ℕ) → id < n → slice_get bs id ≡ Some None) → bs ≡ map no_body bs
    all_undefined [] n e each = refl
    all_undefined (b ∷ bs) zero e each = absurd (omega arith)
    all_undefined (b ∷ bs) (suc n) e each =
        let here : b ≡ None = cc (each 0 (omega arith)) in
        λ j. here j ∷ all_undefined bs n (omega arith) (λ id lt. each (suc id) (omega arith)) j

    none_each : (ns ms : List Bytes) → length ms ≡ length (names_in (texts_of x) inside) → map no_body (bodies a.table) ≡ map no_body ms
    none_each ns ms e = by_many (bodies a.table) ms (length-map a.table.structs (λ s. s.1) ∙ (named.structs.many ∙ sym e))
      where
        by_many : (bs : List (Option StructBody)) (ms : List Bytes) → length bs ≡ length ms → map no_body bs ≡ map no_body ms
        by_many [] [] q = refl
        by_many [] (m ∷ ms) q = absurd (omega arith)
        by_many (b ∷ bs) [] q = absurd (omega arith)
        by_many (b ∷ bs) (m ∷ ms) q = ap (λ (l : List (Option StructBody)). None ∷ l) (by_many bs ms (omega arith))

    undefined_at : (ns : List Bytes) (id : ℕ) → id < length ns → slice_get (bodies (only_named ns)) id ≡ Some None
    undefined_at [] id lt = absurd (omega arith)
    undefined_at (n ∷ ns) zero lt = refl
    undefined_at (n ∷ ns) (suc id) lt = undefined_at ns id (omega arith)

-- what a record answers, as the answer of the whole block: a refusal is the block's
pub step_refused : {B : Type 0} (M : Unit {0} → Listed → Type 0) (N : B → Listed → Type 0) (whole one : Answer Listed) (f : Listed → Answer Listed) (given : BitcodeFault) → whole ≡ (one >>= f) → Answers N one (Err given)
    → Answers M whole (Err given)
step_refused M N whole (Ok u) f given is h = by_memory whole given h
  where
    by_memory : (w : Answer Listed) (g : BitcodeFault) → g ≡ fault.Memory → Answers M w (Err g)
    by_memory (Ok v) g e = e
    by_memory (Err told) g e = rw e tt
step_refused M N whole (Err told) f given is h = rw is h

-- ---- what one record asks, and what it gives

-- the names from a record on, as the record says them
later_is : (x : the_texts.Texts) (s : Listed) (code : ℕ) (operands : List ℕ) (behind : Records) → s.texts ≡ texts_of x → names_in (texts_of x) (a_record code operands behind) ≡ later_names s code operands (names_in (texts_of x) behind)
later_is x s code operands behind texts =
    let same : (judged (definition (texts_of x) 0) operands).0.1 ≡ (judged (definition s.texts (length s.types.types)) operands).0.1 =
    name_apart x 0 (length s.types.types) operands ∙ ap (λ t. (judged (definition t (length s.types.types)) operands).0.1) (sym texts) in
    ap (λ n. cond (nat_eq code 7) (n ∷ names_in (texts_of x) behind) (names_in (texts_of x) behind)) same

module _ (x : the_texts.Texts) (whole : Answer Listed) (inside : Records) (others : List Piece) (found : StructNames) (a : Lists) (r : Reader) (defined code : ℕ) (h : IsStep (texts_of x) whole inside others found a r defined code) where
  -- the names behind it
  pub later_so_far : AreSoFar found (names_in (texts_of x) inside) h.s (later_names h.s code h.operands (names_in (texts_of x) h.behind))
  later_so_far = subst (AreSoFar found (names_in (texts_of x) inside) h.s) (later_is x h.s code h.operands h.behind h.texts) h.so_far

  -- a struct's record stands for one of the structs, which is not defined
  named_here : code ≡ 7 → length h.s.names < length (names_in (texts_of x) inside)
  named_here is =
      let here : names_in (texts_of x) (a_record code h.operands h.behind) ≡ (judged (definition (texts_of x) 0) h.operands).0.1 ∷ names_in (texts_of x) h.behind =
      ap (λ k. cond (nat_eq k 7) ((judged (definition (texts_of x) 0) h.operands).0.1 ∷ names_in (texts_of x) h.behind) (names_in (texts_of x) h.behind)) is in
      let all = ap length h.so_far.all_is in
      let parts = length-append h.s.names (names_in (texts_of x) (a_record code h.operands h.behind)) in
      let more = ap length here in
      omega (arith, all, parts, more)

  pub step_undefined : code ≡ 7 → IsUndefined a defined
  step_undefined is =
      let none = h.so_far.undefined (length h.s.names) (omega arith) (named_here is) in
      let there : slice_get (bodies a.table) defined ≡ Some None = (λ j. slice_get (h.on.listed.bodies_are j) (h.number j)) ∙ none in
      let inside_it = slice_get_within (bodies a.table) defined None there in
      let many = length-map a.table.structs (λ s. s.1) in
      (omega (arith, inside_it, many), there)

  pub step_room : code ≡ 7 → defined < 2 ^ 31
  step_room is =
      let here = named_here is in
      let few = h.on.listed.few in
      let same = h.number in
      omega (arith, here, few, same)

  pub step_given : 0 < r.at
  step_given = let place = h.on.at in omega (arith, place)

-- a block where none of its kind may stand is refused so, whatever was to be read
pub misplaced_so : {A B : Type 0} (id at : ℕ) (given : BitcodeFault) (M : B → A → Type 0) → IsMisplaced id at given → Answers {A = A} {B = B} M (misplaced id at) (Err given)
misplaced_so {A} {B} id at given M h = by_id (is_block_id id) refl
  where
    told_so : (f : RecordFault) (g : BitcodeFault) → g ≡ of_records f → Answers {A = A} {B = B} M (Err f) (Err g)
    told_so f (fault.Bit b) e = e
    told_so f fault.ForeignProducer e = e
    told_so f (fault.BadVersion v) e = e
    told_so f (fault.UnknownRecord i c) e = e
    told_so f (fault.BadRecord i n k) e = e
    told_so f fault.Memory e = tt

    by_id : (b : Bool) → is_block_id id ≡ b → Answers {A = A} {B = B} M (misplaced id at) (Err given)
    by_id true e = let is = rw e at h in rw e (told_so (BadRecord id at 5) given is)
    by_id false e = let is = rw e at h in rw e (told_so (UnknownRecord id 0) given is)

-- a block among the types is refused
pub block_refused : (t : Texts) (whole : Answer Listed) (inside : Records) (others : List Piece) (found : StructNames) (a : Lists) (r now : Reader) (defined id : ℕ) (given : BitcodeFault) (M : Unit {0} → Listed → Type 0)
    → IsReading t whole inside others found a r defined → ((all : Records) (rest : List Piece) → IsBefore r.left all rest → Gives all r (Block id) now rest) → IsMisplaced id now.at given → Answers M whole (Err given)
block_refused t whole inside others found a r now defined id given M h gives bad = by_rest h.rest h.same (gives h.rest (ended ∷ others) h.before)
  where
    by_rest : (rest : Records) → whole ≡ listed_from h.s rest → Gives rest r (Block id) now (ended ∷ others) → Answers M whole (Err given)
    by_rest no_more same g = absurd g
    by_rest (a_record code operands behind) same g = absurd g
    by_rest (a_block other held behind) same g =
        let there : IsMisplaced other h.s.at given = subst (λ (p : ℕ × ℕ). IsMisplaced p.0 p.1 given) (λ j. (g.0 j, (g.1 ∙ h.place) j)) bad in
        rw same (misplaced_so other h.s.at given M there)

-- the end of the block
pub reading_ends : (t : Texts) (whole : Answer Listed) (inside : Records) (others : List Piece) (found : StructNames) (a : Lists) (r now : Reader) (defined : ℕ) → IsReading t whole inside others found a r defined
    → ((all : Records) (rest : List Piece) → IsBefore r.left all rest → Gives all r End now rest)
    → Answers {B = Unit {0}} (λ _ u. IsListed a found (names_in t inside) u × (now.left ≡ others) × (now.at ≡ u.at)) whole (Ok tt)
reading_ends t whole inside others found a r now defined h gives = by_rest h.rest h.same (gives h.rest (ended ∷ others) h.before)
  where
    by_rest : (rest : Records) → whole ≡ listed_from h.s rest → Gives rest r End now (ended ∷ others)
        → Answers {B = Unit {0}} (λ _ u. IsListed a found (names_in t inside) u × (now.left ≡ others) × (now.at ≡ u.at)) whole (Ok tt)
    by_rest no_more same g = rw same (h.listed_is, g.1, g.0 ∙ h.place)
    by_rest (a_block id held behind) same g = absurd g
    by_rest (a_record code operands behind) same g = absurd g

-- how many names there are behind one record more
pub names_counted : (all xs ys earlier later : List Bytes) (n : ℕ) → all ≡ xs ++ earlier → all ≡ ys ++ later → length earlier ≡ n + length later → length ys ≡ length xs + n
names_counted all xs ys earlier later n p q e =
    let a = ap length p in
    let b = ap length q in
    let c = length-append xs earlier in
    let d = length-append ys later in
    omega (arith, a, b, c, d, e)
