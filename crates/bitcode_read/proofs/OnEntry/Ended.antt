-- The end of a record: what is told of it, and what it answers.
use Rattle.std.proofs.Common.{◌≡◌, ◌↔◌, ◌-◌, ◌+◌, ◌<◌, ◌≤◌, ℕ, suc, Bool, true, false, Option, Some, None, List, [], ◌∷◌, refl, sym, ap, subst, ◌∙◌, arith}
use Rattle.std.specs.Prelude.{Result, Ok, Err, OnOk, nat_lt, nat_le}
use Rattle.std.proofs.lemmas.Bool.{leb-true, leb-false, ltb-true, ltb-false}
use Rattle.module_arena.specs.declared.constant.Const.{Const}
use Rattle.module_arena.specs.declared.entry.GlobalId.{GlobalId}
use Rattle.module_arena.specs.declared.entry.GlobalId.TheVariants as global
use Rattle.module_arena.specs.Lists.{Lists, global_name}
use Rattle.module_arena.specs.Module.{Bytes}
use Rattle.record_table.specs.Faults.{also, module_id, unless_broken}
use Rattle.record_table.specs.Records.{Sofar, is_new}
use Rattle.record_table.specs.Walk.{Walk, going, stopped, told}
use Rattle.record_read.specs.declared.fault.BitcodeFault.{BitcodeFault}
use Rattle.record_read.specs.declared.fault.BitcodeFault.TheVariants as fault
use Rattle.record_read.specs.Faults.{Answers, Finishes}
use Rattle.record_read.specs.Reader.{Reader, FinishesBy, also_asked, is_broken}
use Rattle.type_read.specs.declared.arena.module_reader.ModuleReader.{ModuleReader}
use Rattle.type_read.specs.Fields.{IsNameOf}
use Rattle.type_read.proofs.Walks.{told_also, also_held}
use Rattle.bitcode_read.specs.Entry.Entries.{AsksNew, EndsRecord, IsToldNew, IsRefusedAt}

-- ---- names

-- two truths of the same are the same
same_truth : (a b : Bool) → (a ≡ true → b ≡ true) → (b ≡ true → a ≡ true) → a ≡ b
same_truth true true f g = refl
same_truth true false f g = sym (f refl)
same_truth false true f g = g refl
same_truth false false f g = refl

-- what is told of a record once rule 4 was asked
pub asked_told : (old new : ModuleReader) (name : Option Bytes) (own : GlobalId) (s : Sofar) (value : Bytes) → AsksNew old name own new → IsToldNew old.growing.arena own s value → IsNameOf name value
    → told new.reader.walk ≡ also 4 (is_new s value) (told old.reader.walk)
asked_told old new None own s value h t n = ap (λ (m : ModuleReader). told m.reader.walk) h ∙ ap (λ b. also 4 b (told old.reader.walk)) (sym (t.other n))
asked_told old new (Some name) own s value h t n =
    let now : (h.is ≡ true) ↔ ((g : GlobalId) → global_name old.growing.arena g ≡ Some value → g ≡ own) =
    subst (λ (v : Bytes). (h.is ≡ true) ↔ ((g : GlobalId) → global_name old.growing.arena g ≡ Some v → g ≡ own)) n.0 h.told in
    let known : (is_new s value ≡ true) ↔ ((g : GlobalId) → global_name old.growing.arena g ≡ Some value → g ≡ own) = t.told n.1 in
    ap (λ (m : ModuleReader). told m.reader.walk) h.asks
    ∙ (told_also 4 h.is old.reader.walk
    ∙ ap (λ b. also 4 b (told old.reader.walk)) (same_truth h.is (is_new s value) (λ yes. known.1 (now.0 yes)) (λ yes. now.1 (known.0 yes))))

-- nothing but the walk changed
pub asked_rest : (old new : ModuleReader) (name : Option Bytes) (own : GlobalId) → AsksNew old name own new → new ≡ record old { reader = record old.reader { walk = new.reader.walk } }
asked_rest old new None own h = h ∙ ap (λ w. record old { reader = record old.reader { walk = w } }) (sym (ap (λ (m : ModuleReader). m.reader.walk) h))
asked_rest old new (Some name) own h = h.asks ∙ ap (λ w. record old { reader = record old.reader { walk = w } }) (sym (ap (λ (m : ModuleReader). m.reader.walk) h.asks))

-- ---- the whole end

module _ (old mid : ModuleReader) (name : Option Bytes) (own : GlobalId) (r2 r3 : Reader) (are_few in_order : Bool) (asks : AsksNew old name own mid)
    (few : r2 ≡ record mid.reader { walk = also_asked 7 are_few mid.reader.walk }) (ordered : r3 ≡ record r2 { walk = also_asked 5 in_order r2.walk }) where
  -- the reader stays but for its walk
  third_is : r3 ≡ record old.reader { walk = r3.walk }
  third_is =
      let first : mid.reader ≡ record old.reader { walk = mid.reader.walk } = ap (λ (m : ModuleReader). m.reader) (asked_rest old mid name own asks) in
      ordered
      ∙ (ap (λ (r : Reader). record r { walk = also_asked 5 in_order r2.walk }) (few ∙ ap (λ (r : Reader). record r { walk = also_asked 7 are_few mid.reader.walk }) first)
      ∙ ap (λ w. record old.reader { walk = w }) (sym (ap (λ (r : Reader). r.walk) ordered)))

  third_told : told r3.walk ≡ also 5 in_order (also 7 are_few (told mid.reader.walk))
  third_told =
      ap (λ (r : Reader). told r.walk) ordered
      ∙ (told_also 5 in_order r2.walk ∙ ap (λ o. also 5 in_order o) (ap (λ (r : Reader). told r.walk) few ∙ told_also 7 are_few mid.reader.walk))

  pub ends_given : 0 < old.reader.at → 0 < r3.at
  ends_given given = subst (λ n. 0 < n) (sym (ap (λ (r : Reader). r.at) third_is)) given

  module _ (result : Result (Unit {0}) BitcodeFault) (finishes : Finishes 8 r3 result) where
    pub ends_told : (s : Sofar) (value : Bytes) → IsToldNew old.growing.arena own s value → IsNameOf name value
        → FinishesBy (IsRefusedAt old.reader.at) (also 5 in_order (also 7 are_few (also 4 (is_new s value) (told old.reader.walk)))) result
    ends_told s value t n =
        let at : r3.at ≡ old.reader.at = ap (λ (r : Reader). r.at) third_is in
        let rules : told r3.walk ≡ also 5 in_order (also 7 are_few (also 4 (is_new s value) (told old.reader.walk))) =
        third_told ∙ ap (λ o. also 5 in_order (also 7 are_few o)) (asked_told old mid name own s value asks t n) in
        subst (λ o. FinishesBy (IsRefusedAt old.reader.at) o result) rules (subst (λ n. FinishesBy (IsRefusedAt n) (told r3.walk) result) at finishes)

    pub ends_few : result ≡ Ok tt → are_few ≡ true
    ends_few is =
        (also_held 7 are_few (told mid.reader.walk)
        (also_held 5 in_order (also 7 are_few (told mid.reader.walk)) (sym third_told ∙ none_told (told r3.walk) (subst (λ x. FinishesBy (IsRefusedAt r3.at) (told r3.walk) x) is finishes))).1).0
      where
        none_told : (o : Option ℕ) → FinishesBy (IsRefusedAt r3.at) o (Ok tt) → o ≡ None
        none_told None h = refl
        none_told (Some rule) h = absurd h

  pub ends_record : (r4 : Reader) (new : ModuleReader) → new ≡ record mid { reader = r4 } → r4.left ≡ r3.left → r4.spent ≡ r3.spent → r4.at ≡ r3.at → EndsRecord old new
  ends_record r4 new is left spent at = record {
    rest = is ∙ (ap (λ (m : ModuleReader). record m { reader = r4 }) (asked_rest old mid name own asks) ∙ ap (λ (r : Reader). record old { reader = r }) (sym (ap (λ (m : ModuleReader). m.reader) is)));
    spent = ap (λ (m : ModuleReader). m.reader.spent) is ∙ (spent ∙ ap (λ (r : Reader). r.spent) third_is);
    left = ap (λ (m : ModuleReader). m.reader.left) is ∙ (left ∙ ap (λ (r : Reader). r.left) third_is);
    at = ap (λ (m : ModuleReader). m.reader.at) is ∙ (at ∙ ap (λ (r : Reader). r.at) third_is);
  }

-- ---- what is answered

pub answers_ok : {A B : Type 0} (means : B → A → Type 0) (at : ℕ) (given : ℕ) (rules : Option ℕ) (value : A) (kept : B) → FinishesBy (IsRefusedAt given) rules (Ok tt) → (rules ≡ None → means kept value) → Answers means (unless_broken module_id at rules value) (Ok kept)
answers_ok means at given None value kept f keep = keep refl
answers_ok means at given (Some rule) value kept f keep = absurd f

pub answers_err : {A B : Type 0} (means : B → A → Type 0) (at given : ℕ) (rules : Option ℕ) (value : A) (e : BitcodeFault) → given ≡ suc at → FinishesBy (IsRefusedAt given) rules (Err e) → Answers means (unless_broken module_id at rules value) (Err e)
answers_err means at given None value e is f = absurd f
answers_err means at given (Some rule) value e is f = memory_or e (f ∙ ap (λ n. fault.BadRecord 8 n rule) (before given at is))
  where
    before : (n at : ℕ) → n ≡ suc at → n - 1 ≡ at
    before n at e = omega arith

    memory_or : (g : BitcodeFault) → g ≡ fault.BadRecord 8 at rule → Answers means (unless_broken module_id at (Some rule) value) (Err g)
    memory_or (fault.Bit b) e = e
    memory_or fault.ForeignProducer e = e
    memory_or (fault.BadVersion v) e = e
    memory_or (fault.UnknownRecord i c) e = e
    memory_or (fault.BadRecord i n k) e = e
    memory_or fault.Memory e = tt

-- where no rule is told, none is broken
pub told_unbroken : (w : Walk) → told w ≡ None → is_broken w ≡ false
told_unbroken (going [] None) h = refl
told_unbroken (going [] (Some r)) h = absurd (cc)
told_unbroken (going (n ∷ rest) None) h = absurd (cc)
told_unbroken (going (n ∷ rest) (Some r)) h = absurd (cc)
told_unbroken (stopped None) h = refl
told_unbroken (stopped (Some r)) h = absurd (cc)

-- whether a name is new does not depend on constants
name_on : (a : Lists) (cs : List Const) (g : GlobalId) → global_name (record a { constants = cs }) g ≡ global_name a g
name_on a cs (global.Variable id) = refl
name_on a cs (global.Function id) = refl
name_on a cs (global.Alias id) = refl

pub told_on : (a : Lists) (cs : List Const) (own : GlobalId) (s : Sofar) (value : Bytes) → IsToldNew a own s value → IsToldNew (record a { constants = cs }) own s value
told_on a cs own s value h = record {
  told = λ good. let t = h.told good in ((λ yes g e. t.0 yes g (sym (name_on a cs g) ∙ e)), λ all. t.1 (λ g e. all g (name_on a cs g ∙ e)));
  other = h.other;
}

-- what holds where a call succeeds
pub on_ok : {E : Type 0} (P : Type 0) (r : Result (Unit {0}) E) → (r ≡ Ok tt → P) → OnOk r P
on_ok P (Ok done) f = f refl
on_ok P (Err e) f = tt

-- ---- counts

-- one more than so many fit exactly where these are fewer
pub fewer_fit : (a b n : ℕ) → nat_lt (a + b) n ≡ nat_le (suc a + b) n
fewer_fit a b n = by (nat_lt (a + b) n) refl (nat_le (suc a + b) n) refl
  where
    no : a + b < n → n < suc a + b → ⊥
    no lt gt = omega arith

    by : (t : Bool) → nat_lt (a + b) n ≡ t → (u : Bool) → nat_le (suc a + b) n ≡ u → t ≡ u
    by true lt true le = refl
    by true lt false le = absurd (no (ltb-true (a + b) n lt) (leb-false (suc a + b) n le))
    by false lt true le = absurd (never (ltb-false (a + b) n lt) (leb-true (suc a + b) n le))
      where
        never : n ≤ a + b → suc a + b ≤ n → ⊥
        never ge le = omega arith
    by false lt false le = refl
