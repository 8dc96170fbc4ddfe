-- What the body of a reply stands for.
use Rattle.std.specs.Prelude.{◌≡◌, ℕ, List, length}
use Rattle.answer_writer.specs.Document.{document}
use Rattle.refutation_tree.specs.Grammar.{IsGrammatical}
use Rattle.family_gen.specs.Families.{sizes_of}
use Rattle.summary_writer.specs.Summary.{summary}
use Rattle.bfgp_jobs.specs.declared.reply.Body.{Body}
use Rattle.bfgp_jobs.specs.declared.reply.Body.TheVariants.{Text, Document, Summary}

-- the text that is written: as it stands, or as the document or the summary of what a search found
abbrev pub text_of : Body → List ℕ
text_of (Text text) = text
text_of (Document found) = document found.names found.answer
text_of (Summary sample found) = summary found.names sample.family sample.number found.answer

-- an answer is of the grammar, and the sizes of a sample are those of its family
abbrev pub IsWritable : Body → Type 0
IsWritable (Text text) = Unit {0}
IsWritable (Document found) = IsGrammatical (length found.names) found.answer
IsWritable (Summary sample found) = (sample.sizes ≡ sizes_of sample.family sample.number) × IsGrammatical (length found.names) found.answer
