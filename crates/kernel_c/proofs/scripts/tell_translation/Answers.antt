-- The answer has a count of words and no refusal, or a refusal with its text and no words.
use Rattle.kernel_c.proofs.PromisedOfTexts.{no_words, refusal_number, refusal_text}
use Rattle.kernel_c.proofs.scripts.tell_translation.Goals as goal

pub returns-in-Err : goal.returns-in-Err
returns-in-Err c = record { words_value = search no_words; number_value = search refusal_number; text_value = search refusal_text }
