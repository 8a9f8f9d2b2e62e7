-- How calls add fragments of code one behind the other.
use Rattle.std.proofs.Common.{◌≡◌, ℕ, ◌≤◌, true, false, List, [], ◌∷◌, ◌++◌, Result, Ok, Err, OnOk, IfOk, IfErr, IsErr, IsErrAnd, sym, ap, subst, ◌∙◌, append_assoc, arith}
use Rattle.bytecode.specs.declared.instr.Instr.{Instr}
use Rattle.selection.specs.declared.draft.Draft.{Draft}
use Rattle.selection.specs.declared.locations.ValueRegister.{ValueRegister}
use Rattle.selection.specs.declared.locations.ConditionRegister.{ConditionRegister}
use Rattle.selection.specs.Lists.{Lists}
use Rattle.selection.specs.Conditions.{Condition}
use Rattle.selection.specs.Expressions.{Emitted}
use Rattle.selection.specs.Simples.{Written}
use Rattle.lower_exprs.specs.declared.fault.LowerFailure.{LowerFailure}
use Rattle.lower_exprs.specs.declared.fault.LowerFailure.TheVariants as failure
use Rattle.lower_exprs.specs.Limits.{NeedsMore}
use Rattle.lower_exprs.specs.Fragments.{Fragment, Adds, of_value, of_test, of_written}
use Rattle.lower_exprs.specs.inner.Stretches.{standing, test_in_place}

-- two fragments, one behind the other
abbrev pub behind : {I E F : Type 0} → Fragment I E → Fragment I F → Fragment I F
behind a b = record { code = a.code ++ b.code; lists = b.lists; end = b.end }

abbrev pub written_behind : List Instr → Written → Written
written_behind code w = record w { code = code ++ w.code }

pub same : {I E : Type 0} {old new : List I} {l : Lists} {a b : Fragment I E} {r : Result E LowerFailure} → a ≡ b → Adds a old new l r → Adds b old new l r
same {I = I} {E = E} {old = old} {new = new} {l = l} {r = r} e k = subst (λ (u : Fragment I E). Adds u old new l r) e k

-- where instructions come from is none of what is picked
pub noted : {I E : Type 0} {old new : List I} {l noted : Lists} {a : Fragment I E} {r : Result E LowerFailure} → noted ≡ l → Adds a old new l r → Adds a old new noted r
noted {I = I} {E = E} {old = old} {new = new} {a = a} {r = r} is k = subst (λ (m : Lists). Adds a old new m r) (sym is) k

-- a second call goes on where the first one ended
pub in_turn : {I E F : Type 0} {old mid new : List I} {la l : Lists} {a : Fragment I E} {b n : Fragment I F} {e : E} {r : Result F LowerFailure} →
    Adds a old mid la (Ok e) → b ≡ n → Adds b mid new l r → Adds (behind a n) old new l r
in_turn {I = I} {old = old} {mid = mid} {new = new} {a = a} {b = b} {n = n} {r = r} k is m =
    let there = same is m in
    record {
      code = subst (λ (is : List I). OnOk r (new ≡ is)) (ap (λ is. is ++ n.code) k.code ∙ append_assoc old a.code n.code) there.code;
      lists = there.lists;
      end = there.end;
      fails = there.fails;
    }

-- one instruction was put there first
pub one_in_front : {I E : Type 0} {old mid new : List I} {l : Lists} {a : Fragment I E} {i : I} {r : Result E LowerFailure} → mid ≡ old ++ i ∷ [] → Adds a mid new l r → Adds (record { code = i ∷ a.code; lists = a.lists; end = a.end }) old new l r
one_in_front {I = I} {old = old} {new = new} {a = a} {i = i} {r = r} is k = record {
  code = subst (λ (is : List I). OnOk r (new ≡ is)) (ap (λ is. is ++ a.code) is ∙ append_assoc old (i ∷ []) a.code) k.code;
  lists = k.lists;
  end = k.end;
  fails = k.fails;
}

-- code that goes on where a loop stands: what stands there and what is to come are what was to come at first
pub goes_on : {old mid new : List Instr} {l : Lists} {w v : Written} {r : Result ℕ LowerFailure} → written_behind mid w ≡ written_behind old v → Adds (of_written w) mid new l r → Adds (of_written v) old new l r
goes_on {new = new} {l = l} {r = r} is k = record {
  code = subst (λ (u : Written). OnOk r (new ≡ u.code)) is k.code;
  lists = subst (λ (u : Written). OnOk r (l ≡ u.lists)) is k.lists;
  end = subst (λ (u : Written). IfOk r (λ to. to ≡ u.to)) is k.end;
  fails = subst (λ (u : Written). IfErr r (λ why. NeedsMore why u.lists.registers)) is k.fails;
}

-- what stands in a list that was empty
pub alone : {I E : Type 0} {old new : List I} {l : Lists} {a : Fragment I E} {e : E} → Adds a old new l (Ok e) → old ≡ [] → new ≡ a.code
alone {a = a} k none = k.code ∙ ap (λ is. is ++ a.code) none

-- a value, a statement and a condition that were gathered there
pub value_alone : {old new : List Instr} {l : Lists} {a : Emitted} {h : ValueRegister} → Adds (of_value a) old new l (Ok h) → old ≡ [] → standing new h l ≡ a
value_alone k none = λ j. standing (alone k none j) (k.end j) (k.lists j)

pub written_alone : {old new : List Instr} {l : Lists} {w : Written} {to : ℕ} → Adds (of_written w) old new l (Ok to) → old ≡ [] → record { code = new; lists = l; to = to } ≡ w
written_alone k none = λ j. record { code = alone k none j; lists = k.lists j; to = k.end j }

pub gathered : {old new shown : List Draft} {l : Lists} {c : Condition} {t : ConditionRegister} → Adds (of_test c) old new l (Ok t) → old ≡ [] → shown ≡ new → test_in_place shown t l ≡ c
gathered k none is = λ j. test_in_place ((is ∙ alone k none) j) (k.end j) (k.lists j)

pub needs_more : (e : LowerFailure) (m n : ℕ) → m ≤ n → NeedsMore e m → NeedsMore e n
needs_more failure.Registers m n h k = omega (arith, h, k)
needs_more failure.OutOfMemory m n h k = tt

-- what `?` hands on: the whole needs what a part of it needs
pub needed_stops : {X J F : Type 0} {n : ℕ} {b : Fragment J F} {old new : List J} {l : Lists} {r : Result X LowerFailure} {s : Result F LowerFailure} {f : LowerFailure} →
    IfErr r (λ why. NeedsMore why n) → r ≡ Err f → IsErr s × IsErrAnd s (λ y. y ≡ f) → n ≤ b.lists.registers → Adds b old new l s
needed_stops {s = Ok y} k was is more = let e : false ≡ true = is.0 in absurd cc
needed_stops {n = n} {b = b} {s = Err y} k was is more = record {
  code = tt;
  lists = tt;
  end = tt;
  fails = needs_more y n b.lists.registers more (subst (λ z. NeedsMore z n) (sym is.1) (subst (λ q. IfErr q (λ why. NeedsMore why n)) was k));
}

pub stops : {I J E F : Type 0} {a : Fragment I E} {b : Fragment J F} {old new : List I} {old' new' : List J} {l l' : Lists} {r : Result E LowerFailure} {s : Result F LowerFailure} {f : LowerFailure} →
    Adds a old new l r → r ≡ Err f → IsErr s × IsErrAnd s (λ y. y ≡ f) → a.lists.registers ≤ b.lists.registers → Adds b old' new' l' s
stops k was is more = needed_stops k.fails was is more

pub no_less : (n : ℕ) → n ≤ n
no_less n = omega arith
