-- What holds of an answer where it is no refusal.
use Rattle.std.proofs.Common.{Result, Ok, Err, IfOk, OnOk}

pub if_also : {A E : Type 0} (r : Result A E) (P R : A → Type 0) → IfOk r P → ((x : A) → P x → R x) → IfOk r R
if_also (Ok x) P R h more = more x h
if_also (Err e) P R h more = tt

pub if_both : {A E : Type 0} (r : Result A E) (P R : A → Type 0) (Q : Type 0) → IfOk r P → OnOk r Q → ((x : A) → P x → Q → R x) → IfOk r R
if_both (Ok x) P R Q h k more = more x h k
if_both (Err e) P R Q h k more = tt

pub on_also : {A E : Type 0} (r : Result A E) (P R : Type 0) → OnOk r P → (P → R) → OnOk r R
on_also (Ok x) P R h more = more h
on_also (Err e) P R h more = tt
