-- Each contract of the crate bus leaves one answer.
use mathlib.Core.Path.{◌≡◌}
use Rattle.bus.proofs.Only.{Only, equation, bounded}
use Rattle.bus.proofs.bit.Reads as bit
use Rattle.bus.proofs.weigh.Reads as weigh
use Rattle.bus.proofs.joined.Reads as joined
use Rattle.bus.proofs.read_words.Reads as read_words
use Rattle.bus.proofs.words_at.Reads as words_at
use Rattle.bus.proofs.put_word.Reads as put_word
use Rattle.bus.proofs.put_double.Reads as put_double
use Rattle.bus.proofs.copy_bytes.Reads as copy_bytes

-- whether a word has a bit
pub one_bit : Only bit.Post
one_bit κs a r s e f = equation

-- a bit's weight, where the bit is set
pub one_weigh : Only weigh.Post
one_weigh κs a r s e f = bounded

-- the word of two bytes
pub one_joined : Only joined.Post
one_joined κs a r s e f = equation

-- a word's two bytes at a place
pub one_put_word : (κs : _) (a : _) (r s : _) (e f : _) → put_word.Post κs a r e → put_word.Post κs a s f → e.0.now ≡ f.0.now
one_put_word κs a r s e f = equation

-- a number's four bytes at a place
pub one_put_double : (κs : _) (a : _) (r s : _) (e f : _) → put_double.Post κs a r e → put_double.Post κs a s f → e.0.now ≡ f.0.now
one_put_double κs a r s e f = equation

-- a copy
pub one_copy_bytes : (κs : _) (a : _) (r s : _) (e f : _) → copy_bytes.Post κs a r e → copy_bytes.Post κs a s f → e.1.1.1.0.now ≡ f.1.1.1.0.now
one_copy_bytes κs a r s e f = equation

-- the words from a place on
pub one_read_words : (κs : _) (a : _) (r s : _) (e f : _) → read_words.Post κs a r e → read_words.Post κs a s f → e.1.1.0.now ≡ f.1.1.0.now
one_read_words κs a r s e f = equation

-- .. as an array
pub one_words_at : (n : _) (f : _) → Only (words_at.Post n f)
one_words_at n f κs a r s e f' = equation
