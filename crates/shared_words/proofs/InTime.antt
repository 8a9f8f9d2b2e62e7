-- What the list of steps that the rule keeps says of order in time, from the machine's laws.
use Rattle.std.proofs.Common.{ℕ, List, ◌++◌, sym, subst}
use Rattle.bytecode.specs.Code.{Configuration, effect}
use Rattle.bytecode.specs.Beginning.{beginning}
use Rattle.bytecode.specs.Initial.{initial_of}
use Rattle.bytecode.specs.Valid.{IsValid, bounds_of}
use Rattle.machine.specs.Answered.{Heard}
use Rattle.bytecode.proofs.Fits.{fits_cells}
use Rattle.machine.specs.Merges.{IsMerge}
use Rattle.machine.specs.Worlds.{World}
use Rattle.machine.proofs.runs.OneOrder.{one_order}
use Rattle.machine.proofs.runs.Programs.{serializable_source}
use Rattle.machine.proofs.runs.Serializable.{serializable}
use Rattle.machine.proofs.runs.Strict.{strictly_serializable}
use Rattle.shared_words.proofs.Codes.{initial_fits}
use Rattle.shared_words.specs.Setup.{IsTraceOf, Setup}
use Rattle.shared_words.specs.Views.{Views}
use Rattle.shared_words.specs.Rule.{IsRuled}
use Rattle.shared_words.specs.Saying.{InTimeSays, KeepsTime, code_does, merge_of}

pub keeps_time : (key : Setup) (ts : List ℕ) (w : World Configuration) (heard : List (List Heard)) → IsValid key.code → IsTraceOf key ts w heard → KeepsTime key ts w
keeps_time key ts w heard valid g =
    let fits = fits_cells key.code valid in
    let memory = initial_fits key.code in
    record {
      is_merge = subst (λ (v : World Configuration). IsMerge v.parts (merge_of key ts)) (sym g.world)
          (serializable (effect key.code) (beginning key.code) (bounds_of key.code) (initial_of key.code) memory fits key.threads ts).is_merge;
      attempts = one_order (effect key.code) (beginning key.code) (bounds_of key.code) (initial_of key.code) memory fits key.threads ts;
      strict = λ seen us e. strictly_serializable (effect key.code) (beginning key.code) (bounds_of key.code) (initial_of key.code) memory fits (code_does key.code) key.threads seen us
          (serializable (effect key.code) (beginning key.code) (bounds_of key.code) (initial_of key.code) memory fits key.threads (seen ++ us));
      programs = λ does means few seen us e. strictly_serializable (effect key.code) (beginning key.code) (bounds_of key.code) (initial_of key.code) memory fits does key.threads seen us
          (serializable_source (effect key.code) (beginning key.code) (bounds_of key.code) (initial_of key.code) memory fits does means key.threads few (seen ++ us));
    }

pub in_time_says : (key : Setup) (words : List ℕ) (views : Views) (rule : IsRuled key words views) → InTimeSays key rule.trace rule.world views
in_time_says key words views rule = record {
  time = keeps_time key rule.trace rule.world rule.heard rule.valid rule.is_trace;
  seats = λ seat view p at a. let f = rule.fits seat view p at a in (f.seen, f.stands);
}
