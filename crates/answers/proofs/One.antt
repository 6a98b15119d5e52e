-- Each contract of the crate answers leaves one answer.
use Rattle.bus.proofs.Only.{Only, equation}
use Rattle.answers.proofs.Refusal.number.Reads as refusal_number
use Rattle.answers.proofs.Answer.number.Reads as number
use Rattle.answers.proofs.Answer.word.Reads as word
use Rattle.answers.proofs.Answer.value.Reads as value
use Rattle.answers.proofs.Answer.length.Reads as length
use Rattle.answers.proofs.read_tests.Reads as read_tests
use Rattle.answers.proofs.write_tests.Reads as write_tests
use Rattle.answers.proofs.arrive_tests.Reads as arrive_tests
use Rattle.answers.proofs.turn_tests.Reads as turn_tests
use Rattle.answers.proofs.arrival_event.Reads as arrival_event
use Rattle.answers.proofs.turn_event.Reads as turn_event

-- the number of a refusal
pub one_refusal_number : Only refusal_number.Post
one_refusal_number κs a r s e f = equation

-- what an answer gives
pub one_number : Only number.Post
one_number κs a r s e f = equation

pub one_word : Only word.Post
one_word κs a r s e f = equation

pub one_value : Only value.Post
one_value κs a r s e f = equation

pub one_length : Only length.Post
one_length κs a r s e f = equation

-- whether a call is refused
pub one_read_tests : Only read_tests.Post
one_read_tests κs a r s e f = equation

pub one_write_tests : Only write_tests.Post
one_write_tests κs a r s e f = equation

pub one_arrive_tests : Only arrive_tests.Post
one_arrive_tests κs a r s e f = equation

pub one_turn_tests : Only turn_tests.Post
one_turn_tests κs a r s e f = equation

-- the events
pub one_arrival_event : Only arrival_event.Post
one_arrival_event κs a r s e f = equation

pub one_turn_event : Only turn_event.Post
one_turn_event κs a r s e f = equation
