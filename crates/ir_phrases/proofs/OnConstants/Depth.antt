-- One level of a nest.
use Rattle.std.proofs.Common.{◌≡◌, ℕ, zero, suc, ◌<◌, ◌-◌, List, refl, arith, sub-one}
use Rattle.ir_lexer.specs.Ahead.{Located}
use Rattle.ir_terminals.specs.PhraseRows.Row.{Bad}
use Rattle.ir_terminals.specs.declared.limits.Limits.{Limits}
use Rattle.ir_phrases.specs.Constants.Types.{nest_step, nest_core, type_at, types_row, fields_core}
use Rattle.ir_phrases.specs.Constants.Constants.{holder_step, holder_core, typed_at}

-- a type that holds types holds those of one level less
pub nest_more : (limits : Limits) (d : ℕ) (ts : List Located) → 0 < d → (nest_core limits d).run ts ≡ (nest_step (type_at limits (d - 1))).run ts
unfolding nest_core
nest_more limits zero ts h = absurd (omega arith)
nest_more limits (suc d) ts h = rw sub-one refl

-- and there is none at the last level
pub nest_end : (limits : Limits) (ts : List Located) → (nest_core limits 0).run ts ≡ Bad ts
unfolding nest_core
nest_end limits ts = refl

-- the fields of a struct are of one level less than the struct
pub fields_more : (limits : Limits) (d : ℕ) (ts : List Located) → 0 < d → (fields_core limits d).run ts ≡ (types_row (type_at limits (d - 1))).run ts
unfolding fields_core
fields_more limits zero ts h = absurd (omega arith)
fields_more limits (suc d) ts h = rw sub-one refl

pub fields_end : (limits : Limits) (ts : List Located) → (fields_core limits 0).run ts ≡ Bad ts
unfolding fields_core
fields_end limits ts = refl

-- a constant that holds constants holds those of one level less
pub holder_more : (limits : Limits) (d : ℕ) (ts : List Located) → 0 < d → (holder_core limits d).run ts ≡ (holder_step limits (typed_at limits (d - 1))).run ts
unfolding holder_core
holder_more limits zero ts h = absurd (omega arith)
holder_more limits (suc d) ts h = rw sub-one refl

pub holder_end : (limits : Limits) (ts : List Located) → (holder_core limits 0).run ts ≡ Bad ts
unfolding holder_core
holder_end limits ts = refl
