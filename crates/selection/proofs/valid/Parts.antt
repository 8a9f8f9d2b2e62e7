-- Parts of a body, with the begins that are open at each of their places, and how they are put together.
use Rattle.std.proofs.Common.{◌≡◌, refl, sym, ap, subst, ◌∙◌, ℕ, zero, suc, ◌+◌, ◌-◌, ◌≤◌, ◌<◌, List, [], ◌∷◌, ◌++◌, length, replicate, drop, arith, Option, Some, None, Bool, IsTrue}
use Rattle.std.specs.List.{AllByRecursion}
use Rattle.std.proofs.lemmas.List.{length-append, length-replicate}
use Rattle.syntax.specs.declared.tree.Mode.TheVariants.{Atomic}
use Rattle.syntax.specs.declared.tree.TransactionKind.{TransactionKind}
use Rattle.syntax.specs.declared.tree.TransactionKind.TheVariants as kinds
use Rattle.bytecode.specs.declared.instr.Instr.{Instr}
use Rattle.bytecode.specs.declared.instr.Instr.TheVariants as own
use Rattle.bytecode.specs.Code.{Code, FunctionCode, Instr as Plain}
use Rattle.bytecode.specs.Valid.{cancel_of, cancelled_in}
use Rattle.bytecode.specs.Views.{instr_of}
use Rattle.lower_spec.specs.Expressions.{InstructionAt}
use Rattle.lower_spec.specs.Statements.{with_level}
use Rattle.selection.specs.declared.locations.Exits.{Exits}
use Rattle.selection.specs.Lists.{Lists}
use Rattle.selection.specs.Simples.{Written, one_written, and_then}
use Rattle.selection.specs.Statements.{in_transaction, level_in, cancelling, left_by, transaction_code}
use Rattle.selection.proofs.stands.Standing.{Stand, front, behind, Grows, grows_same, grows_further}
use Rattle.selection.proofs.stands.Statements.{Enclosing, enclosed_in, IsInOuter, level_of, level_inside}
use Rattle.selection.proofs.valid.Fitting.{Fits, fits_before}
use Rattle.selection.proofs.valid.Begins.{Are, are_front, are_behind, opens as opens_along, opens_many, opens_first}
use Rattle.selection.proofs.valid.Goods.{IsGood, AreGood, good_append, Meets, Runs, runs_to}
use Rattle.selection.proofs.valid.Simples.{Flat}

-- the open begins in front of so many commits and what follows them
abbrev pub lowering : ℕ → List ℕ → List (List ℕ)
lowering zero bs = bs ∷ []
lowering (suc n) bs = bs ∷ lowering n (drop 1 bs)

lowering_many : (n : ℕ) (bs : List ℕ) → length (lowering n bs) ≡ suc n
lowering_many zero bs = refl
lowering_many (suc n) bs = ap suc (lowering_many n (drop 1 bs))

module _ (code : Code) (arguments : List ℕ) (f : FunctionCode) (end : ℕ) where
  -- more begins than so many are open, and where a cancel of so many and the next one leads to, the others are
  abbrev pub IsCancelled : ℕ → List ℕ → (ℕ → List ℕ) → Type 0
  IsCancelled n bs open_at = (n < length bs) × AllByRecursion (Meets code arguments f end open_at) (cancelled_in code (drop n bs))

  abbrev pub IsOuterCancelled : Option ℕ → List ℕ → (ℕ → List ℕ) → Type 0
  IsOuterCancelled None bs open_at = Unit {0}
  IsOuterCancelled (Some n) bs open_at = IsCancelled n bs open_at

  -- where control goes from a place where these begins are open
  pub record Exiting (bs : List ℕ) (x : Exits) (loops : Bool) (m : Enclosing) (open_at : ℕ → List ℕ) : Type 0 where
    pub in_function : length bs ≡ x.in_function
    pub in_loop : IsTrue loops → x.in_loop ≤ length bs
    pub breaks : IsTrue loops → Meets code arguments f end open_at (x.break_to, drop x.in_loop bs)
    pub continues : IsTrue loops → Meets code arguments f end open_at (x.continue_to, drop x.in_loop bs)
    pub cancels : m.innermost ≡ Some Atomic → IsCancelled 0 bs open_at
    pub to_outer : x.to_outer ≡ level_of m.in_outer
    pub outer_cancels : IsOuterCancelled m.in_outer bs open_at

  -- what is written from a place on is in order, where those begins are open that should be
  pub record Part (P : (ℕ → List ℕ) → Type 0) (bs : List ℕ) (from : ℕ) (l : Lists) (w : Written) : Type 0 where
    pub to_is : w.to ≡ from + length w.code
    pub grows : Grows l w.lists
    pub opens : List (List ℕ)
    pub many : length opens ≡ length w.code
    pub enters : (open_at : ℕ → List ℕ) → Are open_at from opens → open_at w.to ≡ bs → open_at from ≡ bs
    pub goods : (open_at : ℕ → List ℕ) → Fits code arguments f.registers w.lists → Stand code arguments from w.code → f.first ≤ from → w.to < end → Are open_at from opens → open_at w.to ≡ bs → P open_at →
        AreGood code arguments f end open_at from w.code

  -- what is in order where those begins are open that its text says, and in what is known
  pub along_part : (P : (ℕ → List ℕ) → Type 0) (bs : List ℕ) (from : ℕ) (l : Lists) (w : Written) → w.to ≡ from + length w.code → Grows l w.lists →
      ((open_at : ℕ → List ℕ) → Fits code arguments f.registers w.lists → P open_at → Runs code arguments f end open_at from bs w.code → AreGood code arguments f end open_at from w.code) → Part P bs from l w
  along_part P bs from l w to_is grows good = record {
    to_is = to_is;
    grows = grows;
    opens = opens_along arguments from bs w.code;
    many = opens_many arguments from bs w.code;
    enters = λ o are e. opens_first arguments o from w.to bs w.code to_is are e;
    goods = λ o k st first last are e holds. good o k holds (runs_to code arguments f end o from w.to bs w.code to_is first last are e);
  }

  pub flat_part : (P : (ℕ → List ℕ) → Type 0) (bs : List ℕ) (from : ℕ) (l : Lists) (w : Written) → Flat code arguments f end from l w → Part P bs from l w
  flat_part P bs from l w h = along_part P bs from l w h.to_is h.grows (λ o k holds run. h.goods o bs k run)

  -- a part is in order where more is known
  abbrev pub knowing : (P Q : (ℕ → List ℕ) → Type 0) (bs : List ℕ) (from : ℕ) (l : Lists) (w : Written) (h : Part P bs from l w) → ((open_at : ℕ → List ℕ) → f.first ≤ from → w.to < end → Are open_at from h.opens → open_at w.to ≡ bs → Q open_at → P open_at) → Part Q bs from l w
  knowing P Q bs from l w h know = record {
    to_is = h.to_is;
    grows = h.grows;
    opens = h.opens;
    many = h.many;
    enters = h.enters;
    goods = λ o k st first last are e holds. h.goods o k st first last are e (know o first last are e holds);
  }

  abbrev pub given : (P Q : (ℕ → List ℕ) → Type 0) (bs : List ℕ) (from : ℕ) (l : Lists) (w : Written) → Part P bs from l w → ((open_at : ℕ → List ℕ) → Q open_at → P open_at) → Part Q bs from l w
  given P Q bs from l w h know = knowing P Q bs from l w h (λ o first last are e holds. know o holds)

  -- one part behind another
  abbrev pub then_part : (P : (ℕ → List ℕ) → Type 0) (bs : List ℕ) (from mid : ℕ) (l : Lists) (a b : Written) → a.to ≡ mid → Part P bs from l a → Part P bs mid a.lists b → Part P bs from l (and_then a b)
  then_part P bs from mid l a b same h g =
      let x = h.to_is in
      let y = g.to_is in
      let m = h.many in
      let n = g.many in
      let mid_is : mid ≡ from + length a.code = omega (arith, same, x) in
      let opens_is : mid ≡ from + length h.opens = omega (arith, mid_is, m) in
      record {
        to_is = let u : length (a.code ++ b.code) ≡ length a.code + length b.code = length-append a.code b.code in omega (arith, mid_is, y, u);
        grows = grows_further l a.lists b.lists h.grows g.grows;
        opens = h.opens ++ g.opens;
        many =
            let u : length (a.code ++ b.code) ≡ length a.code + length b.code = length-append a.code b.code in
            let v : length (h.opens ++ g.opens) ≡ length h.opens + length g.opens = length-append h.opens g.opens in
            omega (arith, m, n, u, v);
        enters = λ o are e.
            let there = g.enters o (are_behind o from mid h.opens g.opens opens_is are) e in
            h.enters o (are_front o from h.opens g.opens are) (subst (λ q. o q ≡ bs) (sym same) there);
        goods = λ o k st first last are e holds.
            let are_b = are_behind o from mid h.opens g.opens opens_is are in
            let there = g.enters o are_b e in
            good_append code arguments f end o from mid a.code b.code mid_is
            (h.goods o (fits_before code arguments f.registers a.lists b.lists g.grows k) (front code arguments from a.code b.code st) first (omega (arith, same, y, last)) (are_front o from h.opens g.opens are) (subst (λ q. o q ≡ bs) (sym same) there) holds)
            (g.goods o k (behind code arguments from mid a.code b.code mid_is st) (omega (arith, mid_is, first)) last are_b e holds);
      }

  -- one instruction
  abbrev pub one_part : (P : (ℕ → List ℕ) → Type 0) (bs : List ℕ) (i : Instr) (from : ℕ) (l : Lists) →
      ((open_at : ℕ → List ℕ) → Fits code arguments f.registers l → f.first ≤ from → from + 1 < end → open_at from ≡ bs → open_at (from + 1) ≡ bs → P open_at → IsGood code arguments f end open_at from (instr_of arguments i)) → Part P bs from l (one_written i from l)
  one_part P bs i from l make = record {
    to_is = omega arith;
    grows = grows_same l;
    opens = bs ∷ [];
    many = refl;
    enters = λ o are e. are.0;
    goods = λ o k st first last are e holds. (make o k first last are.0 e holds, tt);
  }

  abbrev pub jump_part : (P : (ℕ → List ℕ) → Type 0) (bs : List ℕ) (there from : ℕ) (l : Lists) → ((open_at : ℕ → List ℕ) → P open_at → Meets code arguments f end open_at (there, bs)) → Part P bs from l (one_written (own.Jump there) from l)
  jump_part P bs there from l meets =
      one_part P bs (own.Jump there) from l (λ o k first last are e holds. let m = meets o holds in record { begins = bs; are = are; written = m.0; asks = tt; leads = (m, tt) })

  -- so many commits, and then an instruction
  lowered_first : (open_at : ℕ → List ℕ) (n q : ℕ) (bs : List ℕ) → Are open_at q (lowering n bs) → open_at q ≡ bs
  lowered_first o zero q bs h = h.0
  lowered_first o (suc n) q bs h = h.0

  left_good : (open_at : ℕ → List ℕ) (n q : ℕ) (bs : List ℕ) (i : Instr) → n ≤ length bs → Are open_at q (lowering n bs) → f.first ≤ q → q + n < end → ((r : ℕ) → open_at r ≡ drop n bs → IsGood code arguments f end open_at r (instr_of arguments i)) →
      AreGood code arguments f end open_at q (replicate n own.Commit ++ i ∷ [])
  left_good o zero q bs i low are first last make = (make q are.0, tt)
  left_good o (suc n) q [] i low are first last make = absurd (omega (arith, low))
  left_good o (suc n) q (b ∷ bs) i low are first last make = (
    record { begins = b ∷ bs; are = are.0; written = tt; asks = λ e. cc e; leads = (((omega (arith, first), omega (arith, last)), lowered_first o n (suc q) bs are.1), tt) },
    left_good o n (suc q) bs i (omega (arith, low)) are.1 (omega (arith, first)) (omega (arith, last)) make,
  )

  pub left_part : (P : (ℕ → List ℕ) → Type 0) (bs : List ℕ) (n : ℕ) (i : Instr) (from : ℕ) (l : Lists) → ((open_at : ℕ → List ℕ) → P open_at → n ≤ length bs) →
      ((open_at : ℕ → List ℕ) → Fits code arguments f.registers l → P open_at → (r : ℕ) → open_at r ≡ drop n bs → IsGood code arguments f end open_at r (instr_of arguments i)) → Part P bs from l (left_by n i from l)
  left_part P bs n i from l low make =
      let a : length (replicate n own.Commit ++ i ∷ []) ≡ length (replicate n own.Commit) + 1 = length-append (replicate n own.Commit) (i ∷ []) in
      let b : length (replicate n own.Commit) ≡ n = length-replicate n own.Commit in
      let c = lowering_many n bs in
      record {
        to_is = omega (arith, a, b);
        grows = grows_same l;
        opens = lowering n bs;
        many = omega (arith, a, b, c);
        enters = λ o are e. lowered_first o n from bs are;
        goods = λ o k st first last are e holds. left_good o n from bs i (low o holds) are first (omega (arith, last)) (make o k holds);
      }

  -- a cancel of so many transactions and the next one
  cancel_good : (open_at : ℕ → List ℕ) (n q : ℕ) (bs : List ℕ) → open_at q ≡ bs → IsCancelled n bs open_at → IsGood code arguments f end open_at q (instr_of arguments (cancelling (suc n)))
  cancel_good o zero q bs are there =
      record { begins = bs; are = are; written = tt; asks = λ none. let low = there.0 in let many = ap length none in absurd (omega (arith, low, many)); leads = there.1 }
  cancel_good o (suc n) q bs are there =
      let one_less : suc n ≡ suc (suc n) - 1 = omega arith in
      record { begins = bs; are = are; written = omega arith; asks = there.0; leads = subst (λ k. AllByRecursion (Meets code arguments f end o) (cancelled_in code (drop k bs))) one_less there.1 }

  pub cancel_part : (bs : List ℕ) (x : Exits) (loops : Bool) (m : Enclosing) → m.innermost ≡ Some Atomic → (from : ℕ) (l : Lists) → Part (Exiting bs x loops m) bs from l (one_written own.Cancel from l)
  cancel_part bs x loops m inside from l =
      one_part (Exiting bs x loops m) bs own.Cancel from l (λ o k first last are e exits. cancel_good o 0 from bs are (exits.cancels inside))

  outer_cancel_good : (open_at : ℕ → List ℕ) (levels : Option ℕ) (n q : ℕ) (bs : List ℕ) → IsInOuter levels → n ≡ level_of levels → open_at q ≡ bs → IsOuterCancelled levels bs open_at → IsGood code arguments f end open_at q (instr_of arguments (cancelling n))
  outer_cancel_good o None n q bs inside e are there = absurd inside
  outer_cancel_good o (Some levels) n q bs inside e are there =
      subst (λ n. IsGood code arguments f end o q (instr_of arguments (cancelling n))) (sym e) (cancel_good o levels q bs are there)

  pub outer_cancel_part : (bs : List ℕ) (x : Exits) (loops : Bool) (m : Enclosing) → IsInOuter m.in_outer → (from : ℕ) (l : Lists) → Part (Exiting bs x loops m) bs from l (one_written (cancelling x.to_outer) from l)
  outer_cancel_part bs x loops m inside from l =
      one_part (Exiting bs x loops m) bs (cancelling x.to_outer) from l (λ o k first last are e exits. outer_cancel_good o m.in_outer x.to_outer from bs inside exits.to_outer are exits.outer_cancels)

  -- what a cancel leads to in one transaction more
  cancelled_here : (open_at : ℕ → List ℕ) (b to : ℕ) (bs : List ℕ) → InstructionAt code b (Plain.Begin to) → Meets code arguments f end open_at (to, bs) → IsCancelled 0 (b ∷ bs) open_at
  cancelled_here o b to bs begins out =
      (omega arith, subst (λ s. AllByRecursion (Meets code arguments f end o) (cancel_of s [] (λ (to : ℕ). (to, bs) ∷ []))) (sym begins) (out, tt))

  outer_inside : (open_at : ℕ → List ℕ) (kind : TransactionKind) (levels : Option ℕ) (b : ℕ) (bs : List ℕ) → IsCancelled 0 (b ∷ bs) open_at → IsOuterCancelled levels bs open_at → IsOuterCancelled (with_level kind levels) (b ∷ bs) open_at
  outer_inside o kinds.Outer levels b bs here there = here
  outer_inside o (kinds.Plain mode) None b bs here there = tt
  outer_inside o (kinds.Plain mode) (Some n) b bs here there = let low = there.0 in (omega (arith, low), there.1)

  -- a transaction
  pub transaction_part : (bs : List ℕ) (x : Exits) (loops : Bool) (m : Enclosing) (kind : TransactionKind) (from : ℕ) (l : Lists) (a : Written) → Part (Exiting (from ∷ bs) (in_transaction kind x) loops (enclosed_in kind m)) (from ∷ bs) (from + 1) l a → Part (Exiting bs x loops m) bs from l (transaction_code a)
  transaction_part bs x loops m kind from l a h =
      let begin : Instr = own.Begin (a.to + 1) in
      let last_begins : List (List ℕ) = (from ∷ bs) ∷ [] in
      let y = h.to_is in
      let many = h.many in
      let last_is : a.to ≡ from + length (begin ∷ a.code) = omega (arith, y) in
      let opens_is : a.to ≡ from + length (bs ∷ h.opens) = omega (arith, y, many) in
      let one_more : suc from ≡ from + 1 = omega arith in
      record {
        to_is = let u : length (begin ∷ a.code ++ own.Commit ∷ []) ≡ length (begin ∷ a.code) + 1 = length-append (begin ∷ a.code) (own.Commit ∷ []) in omega (arith, last_is, u);
        grows = h.grows;
        opens = bs ∷ h.opens ++ last_begins;
        many =
            let u : length (begin ∷ a.code ++ own.Commit ∷ []) ≡ length (begin ∷ a.code) + 1 = length-append (begin ∷ a.code) (own.Commit ∷ []) in
            let v : length (bs ∷ h.opens ++ last_begins) ≡ length (bs ∷ h.opens) + 1 = length-append (bs ∷ h.opens) last_begins in
            omega (arith, many, u, v);
        enters = λ o are e. are.0;
        goods = λ o k st first last are e exits.
            let own_stand = front code arguments from (begin ∷ a.code) (own.Commit ∷ []) st in
            let inner = are_front o from (bs ∷ h.opens) last_begins are in
            let at_end = (are_behind o from a.to (bs ∷ h.opens) last_begins opens_is are).0 in
            let inner_are = subst (λ q. Are o q h.opens) one_more inner.1 in
            let start = h.enters o inner_are at_end in
            let out : Meets code arguments f end o (a.to + 1, bs) = ((omega (arith, first, y), last), e) in
            let here = cancelled_here o from (a.to + 1) bs own_stand.0 out in
            let function_is = exits.in_function in
            let deeper : suc x.in_loop ≡ x.in_loop + 1 = omega arith in
            let inner_exits : Exiting (from ∷ bs) (in_transaction kind x) loops (enclosed_in kind m) o = (record {
              in_function = omega (arith, function_is);
              in_loop = λ t. let i = exits.in_loop t in omega (arith, i);
              breaks = λ t. subst (λ n. Meets code arguments f end o (x.break_to, drop n (from ∷ bs))) deeper (exits.breaks t);
              continues = λ t. subst (λ n. Meets code arguments f end o (x.continue_to, drop n (from ∷ bs))) deeper (exits.continues t);
              cancels = λ t. here;
              to_outer = ap (level_in kind) exits.to_outer ∙ level_inside kind m.in_outer;
              outer_cancels = outer_inside o kind m.in_outer from bs here exits.outer_cancels;
            }) in
            good_append code arguments f end o from a.to (begin ∷ a.code) (own.Commit ∷ []) last_is (
              record { begins = bs; are = are.0; written = out.0; asks = tt; leads = (((omega (arith, first), omega (arith, last, y)), subst (λ q. o q ≡ from ∷ bs) (sym one_more) start), tt) },
              subst (λ q. AreGood code arguments f end o q a.code) (sym one_more)
                  (h.goods o k (subst (λ q. Stand code arguments q a.code) one_more own_stand.1) (omega (arith, first)) (omega (arith, last)) inner_are at_end inner_exits),
            )
            (record { begins = from ∷ bs; are = at_end; written = tt; asks = λ t. cc t; leads = (((omega (arith, first, y), omega (arith, last)), let same : a.to + 1 ≡ suc a.to = omega arith in subst (λ q. o q ≡ bs) same e), tt) }, tt);
      }
