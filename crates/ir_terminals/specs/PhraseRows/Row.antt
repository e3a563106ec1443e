-- For `read_items`, and all calls that it reads phrases by: rows of a grammar as values: what each means, and how it is
-- read.
use Rattle.std.specs.Prelude.{◌≡◌, ℕ, zero, suc, List, [], ◌∷◌, ◌++◌, length, Bool, true, false, ◌⊎◌, ◌==◌, cond, Option, Some, None, ◌&&◌}

-- what reading gives: a value and the tokens left, or the tokens from the first bad one on
pub data Reading (T A : Type 0) : Type 0 where
  Done : (value : A) (rest : List T) → Reading T A
  Bad : (rest : List T) → Reading T A

-- reading goes on behind a value
abbrev pub bind : {T A B : Type 0} → Reading T A → (A → List T → Reading T B) → Reading T B
bind (Done a rest) f = f a rest
bind (Bad rest) f = Bad rest

-- the classes of tokens that may begin a phrase, those that may go on with a whole one, and whether it may be of no token
pub record PhraseShape : Type 0 where
  pub first : List ℕ
  pub more : List ℕ
  pub empty : Bool

-- A row: its whole phrases with their values, its cut phrases, and how it is read.
pub record Row (T A : Type 0) : Type 1 where
  pub whole : List T → A → Type 0
  pub cut : List T → Type 0
  pub run : List T → Reading T A
  pub shape : PhraseShape

-- the class is one of these
abbrev pub among : ℕ → List ℕ → Bool
among k [] = false
among k (x ∷ xs) = cond (k == x) true (among k xs)

-- whether there is a token, of one of these classes
abbrev pub begins : {T : Type 0} → (T → ℕ) → List ℕ → List T → Bool
begins class first [] = false
begins class first (t ∷ ts) = among (class t) first

-- no class is in both
abbrev pub apart : List ℕ → List ℕ → Bool
apart [] ys = true
apart (x ∷ xs) ys = cond (among x ys) false (apart xs ys)

-- all of the classes of the one are in the other
abbrev pub within : List ℕ → List ℕ → Bool
within [] ys = true
within (x ∷ xs) ys = cond (among x ys) (within xs ys) false

-- no token
abbrev pub nothing : {T A : Type 0} → A → Row T A
nothing {T} {A} a = record {
  whole = λ us b. (us ≡ []) × (b ≡ a);
  cut = λ us. Unit {0} × (us ≡ []);
  run = λ ts. Done a ts;
  shape = record { first = []; more = []; empty = true };
}

-- not to be had
abbrev pub fail : {T A : Type 0} → PhraseShape → Row T A
fail {T} {A} s = record {
  whole = λ us b. ⊥;
  cut = λ us. us ≡ [];
  run = λ ts. Bad ts;
  shape = s;
}

-- reads one token of these classes that has a value
abbrev pub run_one : {T A : Type 0} → (T → ℕ) → List ℕ → (T → Option A) → List T → Reading T A
run_one class ks f [] = Bad []
run_one class ks f (t ∷ ts) = cond (among (class t) ks) (elim (f t) [ Some a ↦ Done a ts | None ↦ Bad (t ∷ ts) ]) (Bad (t ∷ ts))

-- one token of one of these classes that has a value
abbrev pub one : {T A : Type 0} → (T → ℕ) → List ℕ → (T → Option A) → Row T A
one {T} {A} class ks f = record {
  whole = λ us a. (t : T) × (us ≡ t ∷ []) × (among (class t) ks ≡ true) × (f t ≡ Some a);
  cut = λ us. us ≡ [];
  run = run_one class ks f;
  shape = record { first = ks; more = []; empty = false };
}

-- one phrase after another, which may depend on the first one's value
abbrev pub chain : {T A B : Type 0} → Row T A → PhraseShape → (A → Row T B) → Row T B
chain {T} {A} {B} p s q = record {
  whole = λ ts b. (us : List T) × (vs : List T) × (a : A) × (ts ≡ us ++ vs) × p.whole us a × (q a).whole vs b;
  cut = λ ts. p.cut ts ⊎ ((us : List T) × (vs : List T) × (a : A) × (ts ≡ us ++ vs) × p.whole us a × (q a).cut vs);
  run = λ ts. bind (p.run ts) (λ a rest. (q a).run rest);
  shape = record {
    first = cond p.shape.empty (p.shape.first ++ s.first) p.shape.first;
    more = cond s.empty (s.more ++ p.shape.more) s.more;
    empty = p.shape.empty && s.empty;
  };
}

-- the phrases of a row, with another value for each
abbrev pub mapped : {T A B : Type 0} → (A → B) → Row T A → Row T B
mapped {T} {A} {B} f p = record {
  whole = λ us b. (a : A) × p.whole us a × (b ≡ f a);
  cut = p.cut;
  run = λ ts. bind (p.run ts) (λ a rest. Done (f a) rest);
  shape = p.shape;
}

-- one after the other, with a value of both
abbrev pub joined_values : {T A B C : Type 0} → (A → B → C) → Row T A → Row T B → Row T C
joined_values f p q = chain p q.shape (λ a. mapped (f a) q)

-- the first of the two keeps no value
abbrev pub keep_second : {T A B : Type 0} → Row T A → Row T B → Row T B
keep_second p q = chain p q.shape (λ a. q)

-- the second of the two keeps no value
abbrev pub keep_first : {T A B : Type 0} → Row T A → Row T B → Row T A
keep_first p q = joined_values (λ a b. a) p q

-- the values of the two
abbrev pub pair : {T A B : Type 0} → Row T A → Row T B → Row T (A × B)
pair p q = joined_values (λ a b. (a, b)) p q

-- either phrase, by the first token
abbrev pub alt : {T A : Type 0} → (T → ℕ) → Row T A → Row T A → Row T A
alt {T} {A} class p q = record {
  whole = λ us a. p.whole us a ⊎ q.whole us a;
  cut = λ us. p.cut us ⊎ q.cut us;
  run = λ ts. cond (begins class p.shape.first ts) (p.run ts) (q.run ts);
  shape = record { first = p.shape.first ++ q.shape.first; more = p.shape.more ++ q.shape.more ++ cond q.shape.empty p.shape.first []; empty = q.shape.empty };
}

-- the phrases of a row, or no token
abbrev pub optional : {T A : Type 0} → (T → ℕ) → Row T A → Row T (Option A)
optional class p = alt class (mapped Some p) (nothing None)

-- phrases in a row, with their values
abbrev pub Each : {T A : Type 0} → (List T → A → Type 0) → List T → List A → Type 0
Each P us [] = us ≡ []
Each {T} {A} P us (a ∷ xs) = (vs : List T) × (ws : List T) × (us ≡ vs ++ ws) × P vs a × Each P ws xs

-- as many as there are, of which there are no more than n
abbrev pub run_many : {T A : Type 0} → (T → ℕ) → Row T A → ℕ → List T → Reading T (List A)
run_many class p zero ts = Done [] ts
run_many class p (suc n) ts =
    cond (begins class p.shape.first ts)
    (bind (p.run ts) (λ a rest. bind (run_many class p n rest) (λ xs rest. Done (a ∷ xs) rest)))
    (Done [] ts)

-- any number of a phrase
abbrev pub many : {T A : Type 0} → (T → ℕ) → Row T A → Row T (List A)
many {T} {A} class p = record {
  whole = Each p.whole;
  cut = λ us. (xs : List A) × (vs : List T) × (ws : List T) × (us ≡ vs ++ ws) × Each p.whole vs xs × p.cut ws;
  run = λ ts. run_many class p (length ts) ts;
  shape = record { first = p.shape.first; more = p.shape.more ++ p.shape.first; empty = true };
}

-- none, or some with a separator between each two
abbrev pub separated : {T A S : Type 0} → (T → ℕ) → Row T S → Row T A → Row T (List A)
separated class s p = alt class (joined_values (λ a xs. a ∷ xs) p (many class (keep_second s p))) (nothing [])

-- phrases in a row, each read in the state that the one before gave: from s through these states to the last
abbrev pub Steps : {T S : Type 0} → (S → List T → S → Type 0) → S → List T → List S → S → Type 0
Steps P s us [] last = (us ≡ []) × (last ≡ s)
Steps {T} {S} P s us (m ∷ ms) last = (vs : List T) × (ws : List T) × (us ≡ vs ++ ws) × P s vs m × Steps P m ws ms last

-- as many steps as there are, of which there are no more than n
abbrev pub run_loop : {T S : Type 0} → (T → ℕ) → PhraseShape → (S → Row T S) → ℕ → S → List T → Reading T S
run_loop class shape q zero s ts = Done s ts
run_loop class shape q (suc n) s ts = cond (begins class shape.first ts) (bind ((q s).run ts) (λ m rest. run_loop class shape q n m rest)) (Done s ts)

-- any number of steps, each of which may depend on the state so far and gives the next: the value is the last state
abbrev pub loop : {T S : Type 0} → (T → ℕ) → PhraseShape → (S → Row T S) → S → Row T S
loop {T} {S} class shape q s = record {
  whole = λ us last. (ms : List S) × Steps (λ m. (q m).whole) s us ms last;
  cut = λ us. (ms : List S) × (last : S) × (vs : List T) × (ws : List T) × (us ≡ vs ++ ws) × Steps (λ m. (q m).whole) s vs ms last × (q last).cut ws;
  run = λ ts. run_loop class shape q (length ts) s ts;
  shape = record { first = shape.first; more = shape.more ++ shape.first; empty = true };
}

-- what a token does to a state: it goes on in another, it ends the phrase with a value, or it is no part of the phrase
pub data TokenMove (S A : Type 0) : Type 0 where
  On : (state : S) → TokenMove S A
  Ends : (value : A) → TokenMove S A
  Stops : TokenMove S A

-- the steps go on through all tokens but the last, which ends them with the value
abbrev pub EndsWith : {T S A : Type 0} → (S → T → TokenMove S A) → S → List T → A → Type 0
EndsWith step s [] a = ⊥
EndsWith step s (t ∷ us) a = elim (step s t) as (λ m. Type 0) [ On m ↦ EndsWith step m us a | Ends b ↦ (us ≡ []) × (a ≡ b) | Stops ↦ ⊥ ]

-- the steps go on through all tokens
abbrev pub GoesOn : {T S A : Type 0} → (S → T → TokenMove S A) → S → List T → Type 0
GoesOn step s [] = Unit {0}
GoesOn step s (t ∷ us) = elim (step s t) as (λ m. Type 0) [ On m ↦ GoesOn step m us | Ends b ↦ ⊥ | Stops ↦ ⊥ ]

-- reads token by token, as the steps of a machine say
abbrev pub run_machine : {T S A : Type 0} → (S → T → TokenMove S A) → S → List T → Reading T A
run_machine step s [] = Bad []
run_machine step s (t ∷ ts) = elim (step s t) [ On m ↦ run_machine step m ts | Ends a ↦ Done a ts | Stops ↦ Bad (t ∷ ts) ]

-- tokens one by one, until a step ends the phrase; these are the classes that may begin it
abbrev pub machine : {T S A : Type 0} → List ℕ → (S → T → TokenMove S A) → S → Row T A
machine first step s = record {
  whole = EndsWith step s;
  cut = GoesOn step s;
  run = run_machine step s;
  shape = record { first = first; more = []; empty = false };
}

-- the same row, under a given shape
abbrev pub labelled : {T A : Type 0} → PhraseShape → Row T A → Row T A
labelled {T} {A} s r = record { whole = r.whole; cut = r.cut; run = r.run; shape = s }

-- a row that contains itself, no more than n deep
abbrev pub deep : {T A : Type 0} → PhraseShape → (Row T A → Row T A) → ℕ → Row T A
deep s f zero = fail s
deep s f (suc n) = f (labelled s (deep s f n))
