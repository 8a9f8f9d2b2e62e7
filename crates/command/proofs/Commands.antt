-- The command line is a simple command, so that what words ask is a function of the words.
use Rattle.std.proofs.Common.{◌≡◌, ◌∙◌, List, [], true, refl, sym, ap, subst, inl, inr}
use Rattle.clap.specs.Words.{App, HasKind, HasMatchesOf, IsAmong, Text, fault_of, is_simple, is_simple_and_free, kind_of, subcommand_of, subcommand_rows_of}
use Rattle.clap.specs.declared.error.Error.{Error}
use Rattle.clap.specs.declared.error.kind.ErrorKind.{ErrorKind}
use Rattle.clap.specs.declared.parser.matches.ArgMatches.{ArgMatches}
use Rattle.clap.proofs.OnLiterals.{clap_on_literals}
use Rattle.command.specs.declared.request.Asked.{Asked}
use Rattle.command.specs.declared.request.UsageFault.{UsageFault}
use Rattle.command.specs.declared.request.UsageFault.TheVariants.{OutOfMemory, Help, Wrong}
use Rattle.command.specs.Line.{program_app}
use Rattle.command.specs.Asked.{AskNothing, Requests, Refuses}
use Rattle.command.specs.inner.Refusals.{IsOwn, HasGiven, SaysError}

pub program_app-is_simple : is_simple program_app ≡ true
unfolding clap_on_literals
program_app-is_simple = refl

pub program_app-is_free : is_simple_and_free program_app ≡ true
unfolding clap_on_literals
program_app-is_free = refl

-- what was met is what the words ask
pub asked : (a : App) (words : List Text) (m : ArgMatches) (r : Asked) → a ≡ program_app → HasMatchesOf a words m → (is_simple_and_free a ≡ true → fault_of a words ≡ []) → HasGiven (subcommand_rows_of m) r → Requests words r
asked a words m r same has none met = record {
  taken = ap (λ x. fault_of x words) (sym same) ∙ none (ap is_simple_and_free same ∙ program_app-is_free);
  name = met.name;
  given = met.given;
  command = ap (λ x. subcommand_of x words) (sym same) ∙ sym (has (ap is_simple same ∙ program_app-is_simple)).1 ∙ met.command;
  made = met.made;
}

-- the program refuses words that the command line has, and that make no request
pub own_refused : (a : App) (words : List Text) (m : ArgMatches) (f : UsageFault) → a ≡ program_app → HasMatchesOf a words m → (is_simple_and_free a ≡ true → fault_of a words ≡ []) → IsOwn ((r : Asked) → HasGiven (subcommand_rows_of m) r → ⊥) f → Refuses words f
own_refused a words m OutOfMemory same has none own = tt
own_refused a words m (Help text) same has none own = absurd own
own_refused a words m (Wrong text) same has none own =
    let met = sym (has (ap is_simple same ∙ program_app-is_simple)).1 in (
      λ r asks. own r (record { name = asks.name; given = asks.given; command = sym met ∙ ap (λ x. subcommand_of x words) same ∙ asks.command; made = asks.made }),
      inl (ap (λ x. fault_of x words) (sym same) ∙ none (ap is_simple_and_free same ∙ program_app-is_free)),
    )

-- words that the command line has not got ask nothing
pub strange_ask_nothing : (words : List Text) (kind : ErrorKind) → IsAmong kind (fault_of program_app words) → AskNothing words
strange_ask_nothing words kind among r asks = subst (λ kinds. IsAmong kind kinds) asks.taken among

refused_by : (words : List Text) (e : Error) (f : UsageFault) → HasKind (fault_of program_app words) e → SaysError e f → Refuses words f
refused_by words e OutOfMemory has says = tt
refused_by words e (Help text) (inl memory) (inl help) = absurd (cc)
refused_by words e (Help text) (inl memory) (inr version) = absurd (cc)
refused_by words e (Help text) (inr among) (inl help) = inl (subst (λ k. IsAmong k (fault_of program_app words)) help among)
refused_by words e (Help text) (inr among) (inr version) = inr (subst (λ k. IsAmong k (fault_of program_app words)) version among)
refused_by words e (Wrong text) (inl memory) says = absurd (says.0 memory)
refused_by words e (Wrong text) (inr among) says =
    (strange_ask_nothing words (kind_of e) among, inr (record { kind = kind_of e; among = among; no_help = says.1; no_version = says.2 }))

-- clap refuses words, or tells the help that they ask for
pub error_refused : (a : App) (words : List Text) (e : Error) (f : UsageFault) → a ≡ program_app → (is_simple_and_free a ≡ true → HasKind (fault_of a words) e) → SaysError e f → Refuses words f
error_refused a words e f same has says =
    refused_by words e f (subst (λ x. HasKind (fault_of x words) e) same (has (ap is_simple_and_free same ∙ program_app-is_free))) says
