use Rattle.system.proofs.question.answer_question.Goals as goal

pub returns : goal.returns
returns g c = λ words requested. record {
  asked = c.args.asked.now;
  requested = requested;
  read = c.serve_request-answer.result.files.items;
  read_from = c.serve_request-answer.ensures.read;
  printed = c.serve_request-answer.result.printed.bytes;
  served = c.serve_request-answer.ensures.answer;
}
