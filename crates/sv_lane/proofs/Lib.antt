mod PlayedLines
