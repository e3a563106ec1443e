-- The front of a record, read one field behind another.
use Rattle.std.proofs.Common.{◌≡◌, ◌<◌, ℕ, zero, suc, Bool, List, [], Option, Some, None, true, false, nat_lt, refl, sym, ap, subst, ◌∙◌, arith}
use Rattle.std.specs.Option.{option_map}
use Rattle.std.proofs.lemmas.List.Elements.{All-cons, All-nil}
use mathlib.Core.Logic.{inl, inr}
use Rattle.ir_tables.specs.declared.linkage.Linkage.{Linkage}
use Rattle.module_arena.specs.declared.entry.AliasType as the_alias_type
use Rattle.module_arena.specs.declared.entry.AliasType.TheVariants as alias_type
use Rattle.module_arena.specs.Module.{Bytes}
use Rattle.record_table.specs.Fields as fields
use Rattle.record_table.specs.Fields.{Texts}
use Rattle.record_table.specs.Layout.{counted, either_by, number, times}
use Rattle.record_table.specs.TypeRecords.{earlier}
use Rattle.record_table.specs.Walk.{Walk, next, stop, ask, least}
use Rattle.record_read.specs.Reader.{Reader, Reads, ReadsAs, IsKept, IsBroken, is_broken, is_stopped}
use Rattle.record_read.specs.Fields.{IsBelow}
use Rattle.type_read.proofs.OnArena.Lasting.{next_still, stop_broken, stop_still}
use Rattle.type_read.specs.Fields.{AreBelow}
use Rattle.type_read.proofs.Bodies.{behind}
use Rattle.bitcode_read.specs.Head.Fronts.{AliasTypeFields, IsListedType, IsListedFunction, ReadsAlias, ReadsFrontName, ReadsFunction, ReadsVariable, alias_type_front, function_type, function_type_of}
use Rattle.bitcode_read.proofs.OnHead.Walked.{Exactly, exactly, kept_on, walk_on, linkage_still, truth_still, earlier_still, types_still, alignment_still}

-- ---- types

-- a count and so many of them
pub types_counted : (types : ℕ) (old mid now : Reader) (count : ℕ) (answer : Option (List ℕ)) → Reads number old mid count → ReadsAs (AreBelow types) (times count (earlier types)) mid now answer
    → ReadsAs (AreBelow types) (counted (earlier types)) old now answer
types_counted types old mid now count answer h r =
    let b = behind (AreBelow types) (times (next old.walk).0 (earlier types)) old mid now (next old.walk).1 answer h.reader (subst (λ n. ReadsAs (AreBelow types) (times n (earlier types)) mid now answer) h.value r) in
    record { kept = b.kept; reader = b.reader }

-- ---- what an alias says of its target

-- the parts of a function type make one
function_kept : (types : ℕ) (returns : Option ℕ) (variadic v : Bool) (parameters : Option (List ℕ)) (t : ℕ) (ts : List ℕ) (w x y : Walk) → IsKept (IsBelow types) returns t w → variadic ≡ v → IsKept (AreBelow types) parameters ts y
    → (IsBroken w → IsBroken y) → IsKept (IsListedFunction types) (function_type_of returns variadic parameters) (t, (v, ts)) y
function_kept types None variadic v parameters t ts w x y r same p still = still r
function_kept types (Some returns) variadic v None t ts w x y r same p still = p
function_kept types (Some returns) variadic v (Some parameters) t ts w x y r same p still =
    (λ i. alias_type.Function (r.0 i) (p.0 i) (same i), All-cons (λ ty. ty < types) returns parameters r.1 p.1)

pub function_type_reads : (types : ℕ) (old a b now : Reader) (returns : Option ℕ) (variadic : Bool) (parameters : Option (List ℕ)) → ReadsAs (IsBelow types) (earlier types) old a returns → Reads fields.truth a b variadic
    → ReadsAs (AreBelow types) (counted (earlier types)) b now parameters → ReadsAs (IsListedFunction types) (function_type types) old now (function_type_of returns variadic parameters)
function_type_reads types old a b now returns variadic parameters r v p =
    let w1 = ((earlier types).read old.walk).1 in
    let second = exactly fields.truth old a b w1 variadic r.reader v in
    let w2 = (fields.truth.read w1).1 in
    let third = behind (AreBelow types) (counted (earlier types)) old b now w2 parameters second.reader p in
    let still : IsBroken a.walk → IsBroken now.walk = λ broken. walk_on (counted (earlier types)) old now w2 third.reader (types_still types) (truth_still w1 (subst IsBroken (ap (λ (q : Reader). q.walk) r.reader) broken)) in
    record { kept = function_kept types returns variadic (fields.truth.read w1).0 parameters ((earlier types).read old.walk).0 ((counted (earlier types)).read w2).0 a.walk b.walk now.walk r.kept second.value third.kept still; reader = third.reader }

-- what stands behind the number that says which of both it is
pub put_reads : (types : ℕ) (old now : Reader) (answer : Option the_alias_type.AliasType) (read : AliasTypeFields × Walk) → read ≡ (alias_type_front types).read old.walk → IsKept (IsListedType types) answer read.0 now.walk
    → now ≡ record old { walk = read.1 } → ReadsAs (IsListedType types) (alias_type_front types) old now answer
put_reads types old now answer read is kept reader = record {
  kept = subst (λ (q : AliasTypeFields × Walk). IsKept (IsListedType types) answer q.0 now.walk) is kept;
  reader = reader ∙ ap (λ (q : AliasTypeFields × Walk). record old { walk = q.1 }) is;
}

plain_kept : (types : ℕ) (ty : Option ℕ) (t : ℕ) (w : Walk) → IsKept (IsBelow types) ty t w → IsKept (IsListedType types) (option_map (λ id. alias_type.Plain id) ty) (inl t) w
plain_kept types None t w h = h
plain_kept types (Some id) t w h = (ap (λ n. alias_type.Plain n) h.0, All-cons (λ n. n < types) id [] h.1 (All-nil (λ n. n < types)))

-- one of both
abbrev as_plain : ℕ × Walk → AliasTypeFields × Walk
as_plain x = (inl x.0, x.1)

abbrev as_function : (ℕ × (Bool × List ℕ)) × Walk → AliasTypeFields × Walk
as_function x = (inr x.0, x.1)

at_zero : (types : ℕ) (n : ℕ) (v : Walk) → 0 ≡ n → as_plain ((earlier types).read v) ≡ either_by (earlier types) (function_type types) n v
unfolding either_by
at_zero types n v is = ap (λ k. either_by (earlier types) (function_type types) k v) is

pub plain_reads : (types : ℕ) (old mid now : Reader) (n : ℕ) (ty : Option ℕ) → Reads number old mid n → n ≡ 0 → ReadsAs (IsBelow types) (earlier types) mid now ty
    → ReadsAs (IsListedType types) (alias_type_front types) old now (option_map (λ id. alias_type.Plain id) ty)
plain_reads types old mid now n ty h is r =
    let v = (next old.walk).1 in
    let b = behind (IsBelow types) (earlier types) old mid now v ty h.reader r in
    let x = (earlier types).read v in
    put_reads types old now (option_map (λ id. alias_type.Plain id) ty) (as_plain x) (at_zero types (next old.walk).0 v (sym is ∙ h.value)) (plain_kept types ty x.0 now.walk b.kept) b.reader

function_in : (types : ℕ) (answer : Option the_alias_type.AliasType) (read : ℕ × (Bool × List ℕ)) (w : Walk) → IsKept (IsListedFunction types) answer read w → IsKept (IsListedType types) answer (inr read) w
function_in types None read w h = h
function_in types (Some kept) read w h = h

at_one : (types : ℕ) (n : ℕ) (v : Walk) → 1 ≡ n → as_function ((function_type types).read v) ≡ either_by (earlier types) (function_type types) n v
unfolding either_by
at_one types n v is = ap (λ k. either_by (earlier types) (function_type types) k v) is

pub other_reads : (types : ℕ) (old mid now : Reader) (n : ℕ) (answer : Option the_alias_type.AliasType) → Reads number old mid n → n ≡ 1 → ReadsAs (IsListedFunction types) (function_type types) mid now answer
    → ReadsAs (IsListedType types) (alias_type_front types) old now answer
other_reads types old mid now n answer h is r =
    let v = (next old.walk).1 in
    let b = behind (IsListedFunction types) (function_type types) old mid now v answer h.reader r in
    let x = (function_type types).read v in
    put_reads types old now answer (as_function x) (at_one types (next old.walk).0 v (sym is ∙ h.value)) (function_in types answer x.0 now.walk b.kept) b.reader

-- nothing is known behind another number
stop_stays : (types : ℕ) (v : Walk) → ((earlier types).read (stop 3 v)).1 ≡ stop 3 v
unfolding next
stop_stays types (Walk.going rest broken) = by (nat_lt 0 types) (least 3 broken)
  where
    by : (b : Bool) (w : Option ℕ) → ask 2 b (Walk.stopped w) ≡ Walk.stopped w
    by true w = refl
    by false w = refl
stop_stays types (Walk.stopped broken) = by (nat_lt 0 types) broken
  where
    by : (b : Bool) (w : Option ℕ) → ask 2 b (Walk.stopped w) ≡ Walk.stopped w
    by true w = refl
    by false w = refl

at_more : (types : ℕ) (n : ℕ) (v : Walk) → 1 < n → as_plain ((earlier types).read (stop 3 v)) ≡ either_by (earlier types) (function_type types) n v
unfolding either_by
at_more types zero v lt = absurd (omega arith)
at_more types (suc zero) v lt = absurd (omega arith)
at_more types (suc (suc n)) v lt = refl

pub none_reads : (types : ℕ) (old mid now : Reader) (n : ℕ) → Reads number old mid n → 1 < n → now ≡ record mid { walk = stop 3 mid.walk } → (is_stopped now.walk ≡ true → is_broken now.walk ≡ true)
    → ReadsAs (IsListedType types) (alias_type_front types) old now None
none_reads types old mid now n h lt is stops =
    let v = (next old.walk).1 in
    let x = (earlier types).read (stop 3 v) in
    let broken : IsBroken now.walk = stop_broken 3 mid.walk now.walk (ap (λ (r : Reader). r.walk) is) stops in
    put_reads types old now None (as_plain x) (at_more types (next old.walk).0 v (subst (λ k. 1 < k) h.value lt)) broken
    (is ∙ (ap (λ (r : Reader). record r { walk = stop 3 r.walk }) h.reader ∙ ap (λ w. record old { walk = w }) (sym (stop_stays types v))))

either_still : (types : ℕ) (n : ℕ) (v : Walk) → IsBroken v → IsBroken (either_by (earlier types) (function_type types) n v).1
unfolding either_by
either_still types zero v h = earlier_still types v h
either_still types (suc zero) v h = types_still types (fields.truth.read ((earlier types).read v).1).1 (truth_still ((earlier types).read v).1 (earlier_still types v h))
either_still types (suc (suc n)) v h = earlier_still types (stop 3 v) (stop_still 3 v h)

-- what is broken stays so behind it
alias_type_still : (types : ℕ) (w : Walk) → IsBroken w → IsBroken ((alias_type_front types).read w).1
alias_type_still types w h = either_still types (next w).0 (next w).1 (next_still w h)

-- ---- a variable, a function, an alias

module _ (t : Texts) (types : ℕ) (old r1 r2 : Reader) (name : Option Bytes) (linkage : Linkage) (n : ReadsFrontName t old r1 name) (l : Reads fields.linkage r1 r2 linkage) where
  abbrev w1 : Walk
  w1 = ((fields.name t).read old.walk).1

  abbrev w2 : Walk
  w2 = (fields.linkage.read w1).1

  second : Exactly fields.linkage old w1 r2 linkage
  second = exactly fields.linkage old r1 r2 w1 linkage n.reader l

  broken_two : name ≡ None → IsBroken w2
  broken_two none = linkage_still w1 (subst IsBroken (ap (λ (r : Reader). r.walk) n.reader) (n.broken none))

  pub variable_reads : (r3 r4 now : Reader) (constant : Bool) (ty alignment : Option ℕ) → Reads fields.truth r2 r3 constant → ReadsAs (IsBelow types) (earlier types) r3 r4 ty → Reads fields.alignment r4 now alignment
      → ReadsVariable t types old now (record { name = name; linkage = linkage; constant = constant; ty = ty; alignment = alignment })
  variable_reads r3 r4 now constant ty alignment c y a =
      let third = exactly fields.truth old r2 r3 w2 constant second.reader c in
      let w3 = (fields.truth.read w2).1 in
      let fourth = behind (IsBelow types) (earlier types) old r3 r4 w3 ty third.reader y in
      let w4 = ((earlier types).read w3).1 in
      let last = exactly fields.alignment old r4 now w4 alignment fourth.reader a in
      let still : IsBroken w4 → IsBroken now.walk = walk_on fields.alignment old now w4 last.reader alignment_still in
      record {
        reader = last.reader;
        name = n.value;
        named = λ none. still (earlier_still types w3 (truth_still w2 (broken_two none)));
        linkage = second.value;
        constant = third.value;
        ty = kept_on (IsBelow types) ty ((earlier types).read w3).0 r4.walk now.walk (λ broken. still (subst IsBroken (ap (λ (r : Reader). r.walk) fourth.reader) broken)) fourth.kept;
        alignment = last.value;
      }

  pub function_reads : (r3 r4 r5 now : Reader) (defined : Bool) (returns : Option ℕ) (variadic : Bool) (parameters : Option (List ℕ)) → Reads fields.truth r2 r3 defined → ReadsAs (IsBelow types) (earlier types) r3 r4 returns
      → Reads fields.truth r4 r5 variadic → ReadsAs (AreBelow types) (counted (earlier types)) r5 now parameters
      → ReadsFunction t types old now (record { name = name; linkage = linkage; defined = defined; returns = returns; variadic = variadic; parameters = parameters })
  function_reads r3 r4 r5 now defined returns variadic parameters d y v p =
      let third = exactly fields.truth old r2 r3 w2 defined second.reader d in
      let w3 = (fields.truth.read w2).1 in
      let fourth = behind (IsBelow types) (earlier types) old r3 r4 w3 returns third.reader y in
      let w4 = ((earlier types).read w3).1 in
      let fifth = exactly fields.truth old r4 r5 w4 variadic fourth.reader v in
      let w5 = (fields.truth.read w4).1 in
      let last = behind (AreBelow types) (counted (earlier types)) old r5 now w5 parameters fifth.reader p in
      let still : IsBroken w4 → IsBroken now.walk = λ broken. walk_on (counted (earlier types)) old now w5 last.reader (types_still types) (truth_still w4 broken) in
      record {
        reader = last.reader;
        name = n.value;
        named = λ none. still (earlier_still types w3 (truth_still w2 (broken_two none)));
        linkage = second.value;
        defined = third.value;
        returns = kept_on (IsBelow types) returns ((earlier types).read w3).0 r4.walk now.walk (λ broken. still (subst IsBroken (ap (λ (r : Reader). r.walk) fourth.reader) broken)) fourth.kept;
        variadic = fifth.value;
        parameters = last.kept;
      }

  pub alias_reads : (now : Reader) (ty : Option the_alias_type.AliasType) → ReadsAs (IsListedType types) (alias_type_front types) r2 now ty → ReadsAlias t types old now (record { name = name; linkage = linkage; ty = ty })
  alias_reads now ty y =
      let third = behind (IsListedType types) (alias_type_front types) old r2 now w2 ty second.reader y in
      record {
        reader = third.reader;
        name = n.value;
        named = λ none. walk_on (alias_type_front types) old now w2 third.reader (alias_type_still types) (broken_two none);
        linkage = second.value;
        ty = third.kept;
      }
