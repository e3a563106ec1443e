-- Names that are there, as a set has them, and one more.
use Rattle.std.proofs.Common.{◌≡◌, ◌+◌, ℕ, Bool, true, false, not, ◌&&◌, cond, List, [], ◌∷◌, ◌++◌, Some, None, Result, Ok, Err, IfOk, refl, sym, ap, subst, ◌∙◌, add-one}
use Rattle.std.specs.Prelude.{◌||◌, bytes_eq}
use Rattle.std.specs.List.{list_any}
use Rattle.std.proofs.lemmas.Bool.{false_from_ne_true, false≢true}
use Rattle.std.proofs.lemmas.Slice.Eq.{bytes_eq-Decides}
use Rattle.module_arena.specs.declared.entry.LocalName.TheVariants as local
use Rattle.module_arena.specs.Module.{Bytes, Named}
use Rattle.record_table.specs.Bodies.{are_new}
use Rattle.record_read.specs.Fields.{are_bytes}
use Rattle.body_read.specs.declared.names.called.BodyNames.{BodyNames}
use Rattle.body_read.specs.Names.Called.{AddsName, AreNames, Calls, beyond_table}

pub ok_by : {A E : Type 0} (r : Result A E) (P Q : A → Type 0) → IfOk r P → ((x : A) → P x → Q x) → IfOk r Q
ok_by (Ok x) P Q h f = f x h
ok_by (Err e) P Q h f = tt

-- ---- tests

or_false : (b : Bool) → (b || false) ≡ b
or_false true = refl
or_false false = refl

and_true : (b : Bool) → (b && true) ≡ b
and_true true = refl
and_true false = refl

or_swap : (a b c : Bool) → (a || (b || c)) ≡ (b || (a || c))
or_swap true true c = refl
or_swap true false c = refl
or_swap false b c = refl

or_twice : (a b : Bool) → (a || (a || b)) ≡ (a || b)
or_twice true b = refl
or_twice false b = refl

not_false : (b : Bool) → false ≡ not b → b ≡ true
not_false true e = refl
not_false false e = absurd (cc)

-- what is made of bytes does not stand for a text that passes the end of the table
in_bytes : (name : Bytes) → are_bytes name ≡ true → bytes_eq name beyond_table ≡ false
in_bytes name h = false_from_ne_true (bytes_eq name beyond_table) (λ e. false≢true (subst (λ (t : Bytes). are_bytes t ≡ true) ((bytes_eq-Decides name beyond_table).0 e) h))

by_bytes : (name : Bytes) → are_bytes name ≡ true → bytes_eq beyond_table name ≡ false
by_bytes name h = false_from_ne_true (bytes_eq beyond_table name) (λ e. false≢true (subst (λ (t : Bytes). are_bytes t ≡ true) (sym ((bytes_eq-Decides beyond_table name).0 e)) h))

-- ---- keys

any_push : (p : Bytes → Bool) (xs : List Bytes) (y : Bytes) → list_any p (xs ++ y ∷ []) ≡ (p y || list_any p xs)
any_push p [] y = refl
any_push p (x ∷ xs) y = ap (λ b. p x || b) (any_push p xs y) ∙ or_swap (p x) (p y) (list_any p xs)

any_of : (p : Bytes → Bool) (strange : Bool) (keys : List Bytes) (y : Bytes)
    → list_any p (cond strange (beyond_table ∷ (keys ++ y ∷ [])) (keys ++ y ∷ [])) ≡ (p y || list_any p (cond strange (beyond_table ∷ keys) keys))
any_of p true keys y = ap (λ b. p beyond_table || b) (any_push p keys y) ∙ or_swap (p beyond_table) (p y) (list_any p keys)
any_of p false keys y = any_push p keys y

any_only : (p : Bytes → Bool) (strange : Bool) (keys : List Bytes) → p beyond_table ≡ false → list_any p (cond strange (beyond_table ∷ keys) keys) ≡ list_any p keys
any_only p true keys h = ap (λ b. b || list_any p keys) h
any_only p false keys h = refl

-- ---- one more

module _ (n m : BodyNames) (own : m.own ≡ n.own) (strange : m.strange ≡ n.strange) (name : Bytes) (is_new : Bool) (bytes : are_bytes name ≡ true) (adds : AddsName n.taken.keys name is_new m.taken.keys) where
  module _ (o : ℕ) (taken : List Bytes) (h : AreNames n o taken) where
    seen : list_any (bytes_eq name) n.taken.keys ≡ list_any (bytes_eq name) taken
    seen = sym (any_only (bytes_eq name) n.strange n.taken.keys (in_bytes name bytes)) ∙ h.there name

    is_new_so : is_new ≡ are_new taken (Named name ∷ [])
    is_new_so = adds.0 ∙ (ap not seen ∙ sym (and_true (not (list_any (bytes_eq name) taken))))

    already : (text : Bytes) (b : Bool) → bytes_eq text name ≡ b → list_any (bytes_eq name) taken ≡ true → list_any (bytes_eq text) taken ≡ (b || list_any (bytes_eq text) taken)
    already text true e there = ap (λ (t : Bytes). list_any (bytes_eq t) taken) ((bytes_eq-Decides text name).0 e) ∙ there
    already text false e there = refl

    there_by : (text : Bytes) (b : Bool) → is_new ≡ b
        → list_any (bytes_eq text) (cond n.strange (beyond_table ∷ cond b (n.taken.keys ++ name ∷ []) n.taken.keys) (cond b (n.taken.keys ++ name ∷ []) n.taken.keys)) ≡ (bytes_eq text name || list_any (bytes_eq text) taken)
    there_by text true e = any_of (bytes_eq text) n.strange n.taken.keys name ∙ ap (λ b. bytes_eq text name || b) (h.there text)
    there_by text false e = h.there text ∙ already text (bytes_eq text name) refl (sym seen ∙ not_false (list_any (bytes_eq name) n.taken.keys) (sym e ∙ adds.0))

    bytes_by : (b : Bool) → list_any (bytes_eq beyond_table) (cond b (n.taken.keys ++ name ∷ []) n.taken.keys) ≡ false
    bytes_by true = any_push (bytes_eq beyond_table) n.taken.keys name ∙ (ap (λ b. b || list_any (bytes_eq beyond_table) n.taken.keys) (by_bytes name bytes) ∙ h.bytes)
    bytes_by false = h.bytes

    names_so : AreNames m o (name ∷ taken)
    names_so = record {
      own_is = own ∙ h.own_is;
      there = λ text.
          ap (λ s. list_any (bytes_eq text) (cond s (beyond_table ∷ m.taken.keys) m.taken.keys)) strange
          ∙ (ap (λ (keys : List Bytes). list_any (bytes_eq text) (cond n.strange (beyond_table ∷ keys) keys)) adds.1 ∙ there_by text is_new refl);
      bytes = ap (list_any (bytes_eq beyond_table)) adds.1 ∙ bytes_by is_new;
    }

  pub called_named : Calls n (Some (local.Named name)) is_new m
  called_named = record { judged = λ o taken h. (is_new_so o taken h, names_so o taken h); strange = strange ∙ sym (or_false n.strange) }

-- a number more
pub called_number : (n m : BodyNames) (number : ℕ) → m.own ≡ n.own + 1 → m.strange ≡ n.strange → m.taken.keys ≡ n.taken.keys → Calls n (Some (local.Numbered number)) true m
called_number n m number own strange keys = record {
  judged = λ o taken h. (
    refl,
    record {
      own_is = own ∙ (ap (λ i. i + 1) h.own_is ∙ add-one o);
      there = λ text. (λ j. list_any (bytes_eq text) (cond (strange j) (beyond_table ∷ keys j) (keys j))) ∙ h.there text;
      bytes = ap (list_any (bytes_eq beyond_table)) keys ∙ h.bytes;
    },
  );
  strange = strange ∙ sym (or_false n.strange);
}

-- a text that passes the end of the table
pub called_strange : (n m : BodyNames) (is_new : Bool) → is_new ≡ not n.strange → m.own ≡ n.own → m.strange ≡ true → m.taken.keys ≡ n.taken.keys → Calls n None is_new m
called_strange n m is_new is own strange keys = record {
  judged = λ o taken h. (
    is ∙ (ap not (sym (seen_by n.strange h.bytes) ∙ h.there beyond_table) ∙ sym (and_true (not (list_any (bytes_eq beyond_table) taken)))),
    record {
      own_is = own ∙ h.own_is;
      there = λ text.
          (λ j. list_any (bytes_eq text) (cond (strange j) (beyond_table ∷ keys j) (keys j)))
          ∙ (there_by n.strange text ∙ ap (λ b. bytes_eq text beyond_table || b) (h.there text));
      bytes = ap (list_any (bytes_eq beyond_table)) keys ∙ h.bytes;
    },
  );
  strange = strange ∙ sym (or_true n.strange);
}
  where
    seen_by : (b : Bool) → list_any (bytes_eq beyond_table) n.taken.keys ≡ false → list_any (bytes_eq beyond_table) (cond b (beyond_table ∷ n.taken.keys) n.taken.keys) ≡ b
    seen_by true h = refl
    seen_by false h = h

    there_by : (b : Bool) (text : Bytes) → (bytes_eq text beyond_table || list_any (bytes_eq text) n.taken.keys) ≡ (bytes_eq text beyond_table || list_any (bytes_eq text) (cond b (beyond_table ∷ n.taken.keys) n.taken.keys))
    there_by true text = sym (or_twice (bytes_eq text beyond_table) (list_any (bytes_eq text) n.taken.keys))
    there_by false text = refl

    or_true : (b : Bool) → (b || true) ≡ true
    or_true true = refl
    or_true false = refl
