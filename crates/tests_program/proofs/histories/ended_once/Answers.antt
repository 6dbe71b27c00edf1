use Rattle.tests_program.proofs.histories.ended_once.Goals as goal

-- what stays is the history of the run
pub returns : goal.returns
returns c =
    let transcript = c.in_ok-replies.field-0 in
    c.runs_are_legal.ensures.journals (record { queue = 10; shapes = 10; audit = 10; entries = 10; octets = 1000 }) c.in_ok-calls.field-0.items transcript.replies.items transcript.mediator c.finish.result
    c.in_ok-replies.ensures.steps c.finish.ensures.entries
