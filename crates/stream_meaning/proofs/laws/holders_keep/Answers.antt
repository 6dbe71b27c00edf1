use Rattle.stream_meaning.proofs.Handing.{none_handed_out, none_streamable, handed_given, streamable_more, handed_answer, handed_means, handed_whole}
use Rattle.stream_meaning.proofs.laws.holders_keep.Goals as goal

pub returns-clause-start : goal.returns-clause-start
returns-clause-start c = none_handed_out

pub returns-clause-streamable : goal.returns-clause-streamable
returns-clause-streamable c = none_streamable

pub returns-clause-given : goal.returns-clause-given
returns-clause-given c = handed_given

pub returns-clause-streamable_more : goal.returns-clause-streamable_more
returns-clause-streamable_more c = streamable_more

pub returns-clause-pulled : goal.returns-clause-pulled
returns-clause-pulled c = handed_answer

pub returns-clause-so_far : goal.returns-clause-so_far
returns-clause-so_far c = handed_means

pub returns-clause-whole : goal.returns-clause-whole
returns-clause-whole c = handed_whole
