-- What can be wrong with a line and with a file, by the numbers that a report shows.
use Rattle.std.specs.Prelude.{ℕ, List, ◌++◌, Ok, Err, codes, decimal, Result}
use Rattle.text.specs.declared.faults.FileFault.{FileFault}
use Rattle.text.specs.declared.faults.FileFault.TheVariants.{TooLong, Line}
use Rattle.text.specs.declared.faults.LineFault.{LineFault}
use Rattle.text.specs.declared.faults.Placed.{Placed}
use Rattle.text.specs.declared.faults.Wrong.{Wrong}
use Rattle.text.specs.declared.faults.Wrong.TheVariants.{Byte, NoLineFeed, Key, Word, Used, Unknown, NoSuch, WrongSort, TooMany, TooManyStates, SetTwice, AnotherProtocol, NotAscending}

-- The number of each kind of fault:
-- 2, a byte outside 32 to 126, or a line of more than 255 bytes;
-- 3, no line feed at its end, or no line where the file's end line is missing;
-- 4, a key that is absent, unknown in the file, or out of place;
-- 5, a word that is missing, extra, empty or misformed;
-- 6, a name that is used already;
-- 7, a name of nothing that is declared;
-- 8, a number of nothing that exists;
-- 9, a term of the wrong sort;
-- 10, more lines or values than allowed;
-- 11, more than 2^40 states;
-- 12, a variable that the rule sets already;
-- 13, the name of another protocol;
-- 14, a cause that does not come after the one above it.
abbrev pub number : Wrong → ℕ
number Byte = 2
number NoLineFeed = 3
number Key = 4
number Word = 5
number Used = 6
number Unknown = 7
number NoSuch = 8
number WrongSort = 9
number TooMany = 10
number TooManyStates = 11
number SetTwice = 12
number AnotherProtocol = 13
number NotAscending = 14

-- The numbers that a report shows of a file's fault: a file of more than 65,536 bytes is number 1, at line 0 and
-- column 0; any other fault is that of a line.
abbrev pub file_number : FileFault → ℕ
file_number TooLong = 1
file_number (Line p) = number p.fault.wrong

abbrev pub file_line : FileFault → ℕ
file_line TooLong = 0
file_line (Line p) = p.line

abbrev pub file_column : FileFault → ℕ
file_column TooLong = 0
file_column (Line p) = p.fault.column

-- A fault of this kind at this column; columns count from 1.
abbrev pub fault : Wrong → ℕ → LineFault
fault wrong column = record { wrong = wrong; column = column }

-- An answer about a line, with the line's number at its fault.
abbrev pub placed_at : {A : Type 0} → ℕ → Result A LineFault → Result A Placed
placed_at line (Ok value) = Ok value
placed_at line (Err fault) = Err (record { line = line; fault = fault })

-- A fault as it is printed.
abbrev pub printed : FileFault → List ℕ
printed fault =
    codes "refused number=" ++ (decimal (file_number fault) ++ (codes " line=" ++ (decimal (file_line fault) ++ (codes " column=" ++ decimal (file_column fault)))))
