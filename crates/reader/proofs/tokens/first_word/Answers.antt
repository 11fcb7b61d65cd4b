use Rattle.std.proofs.lemmas.List.Sums.{prefix_len-le-length}
use Rattle.hol.specs.Text.{in_words}
use Rattle.reader.proofs.tokens.first_word.Goals as goal

pub split_at-requires : goal.split_at-requires
split_at-requires c = rw c.word_length.ensures (prefix_len-le-length in_words c.args.text.now)
