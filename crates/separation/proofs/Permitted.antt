-- What an accepted program's sites may do where they stand.
use Rattle.std.proofs.Common.{◌≡◌, refl, sym, subst, ℕ, List, [], ◌∷◌, ◌++◌, arith, Option, Some, None, Bool, true, false, IsTrue}
use Rattle.std.specs.Prelude.{Contains, codes}
use Rattle.std.proofs.lemmas.List.Elements.{All-contains, Contains-append_left, Contains-append_right}
use Rattle.syntax.specs.declared.tree.Mode.{Mode}
use Rattle.syntax.specs.declared.tree.Mode.TheVariants.{Atomic, Relaxed}
use Rattle.syntax.specs.Tree.{Program}
use Rattle.safety.specs.Sites.{Construct, Prints, Relaxes, OpensOuter, Cancels, CancelsOuter, Calls, Uses, Site, sites_of}
use Rattle.safety.specs.Safe.{IsSafeConstruct, IsSafe, KeepsAtomic, KeepsOuter}
use Rattle.separation.specs.Touching.{IsAccess, IsTouching, IsAccepted}
use Rattle.safety.proofs.Greatest.{the_law as safe_is_safe_set}
use Rattle.separation.proofs.Least.{least_is_touching}
use Rattle.separation.proofs.Goes.{MayPrint, MayBegin, IsInside}

-- outside transactions nothing shared is used
abbrev pub PermitsOutside : Program → Construct → Type 0
PermitsOutside p (Uses x) = ⊥
PermitsOutside p (Calls f) = IsTouching p f → ⊥
PermitsOutside p Prints = Unit {0}
PermitsOutside p Relaxes = Unit {0}
PermitsOutside p OpensOuter = Unit {0}
PermitsOutside p Cancels = Unit {0}
PermitsOutside p CancelsOuter = Unit {0}

-- and inside an atomic one nothing is unsafe
abbrev pub Permits : Program → Option Mode → Construct → Type 0
Permits p None m = PermitsOutside p m
Permits p (Some Relaxed) m = Unit {0}
Permits p (Some Atomic) m = IsSafeConstruct (IsSafe p) m

-- how the innermost transaction runs at a point of a function's body, where it was called so
abbrev pub inside_of : Option Mode → Option Mode
inside_of None = Some Relaxed
inside_of (Some mode) = Some mode

abbrev pub mode_in : Option Mode → (atomic in_any : Bool) → Option Mode
mode_in outer true in_any = Some Atomic
mode_in outer false true = inside_of outer
mode_in outer false false = outer

abbrev pub IsPermitted : Program → Option Mode → Site → Type 0
IsPermitted p outer m =
    Permits p (mode_in outer m.atomic m.in_any) m.construct
    × (m.construct ≡ Cancels → IsTrue m.atomic)
    × (m.construct ≡ CancelsOuter → IsTrue m.outer)

pub record AllPermitted (p : Program) (outer : Option Mode) (ms : List Site) : Type 0 where
  pub each : (m : Site) → Contains ms m → IsPermitted p outer m

pub front_permitted : {p : Program} {outer : Option Mode} (ms os : List Site) → AllPermitted p outer (ms ++ os) → AllPermitted p outer ms
front_permitted ms os h = record { each = λ m c. h.each m (Contains-append_left ms os m c) }

pub back_permitted : {p : Program} {outer : Option Mode} (ms os : List Site) → AllPermitted p outer (ms ++ os) → AllPermitted p outer os
back_permitted ms os h = record { each = λ m c. h.each m (Contains-append_right ms os m c) }

pub one_permitted : {p : Program} {outer : Option Mode} (m : Site) → AllPermitted p outer (m ∷ []) → IsPermitted p outer m
one_permitted m h = h.each m (0, omega arith, refl)

-- what a permission gives
pub may_print : (p : Program) (w : Option Mode) → Permits p w Prints → MayPrint w
may_print p None h = tt
may_print p (Some Relaxed) h = tt
may_print p (Some Atomic) h = h

pub is_inside : (p : Program) (w : Option Mode) (x : List ℕ) → Permits p w (Uses x) → IsInside w
is_inside p None x h = h
is_inside p (Some mode) x h = tt

pub may_begin_atomic : (w : Option Mode) → MayBegin w Atomic
may_begin_atomic None = tt
may_begin_atomic (Some Relaxed) = tt
may_begin_atomic (Some Atomic) = tt

pub may_begin_relaxed : (p : Program) (w : Option Mode) → Permits p w Relaxes → MayBegin w Relaxed
may_begin_relaxed p None h = tt
may_begin_relaxed p (Some Relaxed) h = tt
may_begin_relaxed p (Some Atomic) h = h

pub relaxed_inside : (p : Program) (outer : Option Mode) (atomic in_any : Bool) → Permits p (mode_in outer atomic in_any) Relaxes → mode_in outer atomic true ≡ Some Relaxed
relaxed_inside p outer true in_any h = absurd h
relaxed_inside p None false true h = refl
relaxed_inside p None false false h = refl
relaxed_inside p (Some Relaxed) false true h = refl
relaxed_inside p (Some Relaxed) false false h = refl
relaxed_inside p (Some Atomic) false true h = absurd h
relaxed_inside p (Some Atomic) false false h = absurd h

-- a site of a function that may be called here may do what it does
module _ (p : Program) (accepted : IsAccepted p) where
  keeps : (f : List ℕ) (m : Site) → Contains (sites_of p f) m → KeepsAtomic p m
  keeps f m c = All-contains (KeepsAtomic p) (sites_of p f) m (accepted.safe.atomic f) c

  keeps_outer : (f : List ℕ) (m : Site) → Contains (sites_of p f) m → KeepsOuter p m
  keeps_outer f m c = All-contains (KeepsOuter p) (sites_of p f) m (accepted.safe.outer f) c

  -- outside transactions
  bare : (f : List ℕ) → (IsTouching p f → ⊥) → (m : Construct) (at : Site) → at.construct ≡ m → at.in_any ≡ false → Contains (sites_of p f) at → PermitsOutside p m
  bare f h (Uses x) at e g c = h (least_is_touching p f at c (g, subst (λ k. IsAccess (IsTouching p) k) (sym e) tt))
  bare f h (Calls x) at e g c = λ t. h (least_is_touching p f at c (g, subst (λ k. IsAccess (IsTouching p) k) (sym e) t))
  bare f h Prints at e g c = tt
  bare f h Relaxes at e g c = tt
  bare f h OpensOuter at e g c = tt
  bare f h Cancels at e g c = tt
  bare f h CancelsOuter at e g c = tt

  permits : (outer : Option Mode) (f : List ℕ) → Permits p outer (Calls f) → (m : Site) → Contains (sites_of p f) m → (atomic in_any : Bool) → m.atomic ≡ atomic → m.in_any ≡ in_any → Permits p (mode_in outer atomic in_any) m.construct
  permits outer f h m c true in_any e g = (keeps f m c).0 e
  permits None f h m c false true e g = tt
  permits None f h m c false false e g = bare f h m.construct m refl g c
  permits (Some Relaxed) f h m c false true e g = tt
  permits (Some Relaxed) f h m c false false e g = tt
  permits (Some Atomic) f h m c false true e g = All-contains (λ k. IsSafeConstruct (IsSafe p) k.construct) (sites_of p f) m (safe_is_safe_set p f h).1 c
  permits (Some Atomic) f h m c false false e g = All-contains (λ k. IsSafeConstruct (IsSafe p) k.construct) (sites_of p f) m (safe_is_safe_set p f h).1 c

  pub all_permitted : (outer : Option Mode) (f : List ℕ) → Permits p outer (Calls f) → AllPermitted p outer (sites_of p f)
  all_permitted outer f h = record { each = λ m c. (permits outer f h m c m.atomic m.in_any refl refl, (keeps f m c).1, (keeps_outer f m c).1) }

  pub worker_permitted : Permits p None (Calls (codes "worker"))
  worker_permitted = accepted.separate
